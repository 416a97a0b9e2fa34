-- What the functions that read word by word give. The grammar is told without these.
use Rattle.std.specs.Prelude.{◌==◌, ◌+◌, ℕ, List, [], ◌∷◌, Bool, take, drop, position, Option, Some, None, unwrap_or, option_and_then, codes, if◌then◌else◌}
use Rattle.std.specs.Str.{bytes_eq}
use Rattle.query_words.specs.declared.command.Command.{Command}
use Rattle.query_words.specs.declared.command.Command.TheVariants as command
use Rattle.query_words.specs.declared.command.Settings.{Settings}
use Rattle.query_words.specs.declared.given.Given.{Given}
use Rattle.query_words.specs.declared.name.OptionName.{OptionName}
use Rattle.query_words.specs.declared.name.OptionName.TheVariants as option
use Rattle.query_words.specs.declared.reader.Place.{Place}
use Rattle.query_words.specs.declared.reader.Place.TheVariants as place
use Rattle.query_words.specs.declared.reader.Progress.{Progress}
use Rattle.query_words.specs.declared.reader.Progress.TheVariants as progress
use Rattle.query_words.specs.declared.reader.Reader.{Reader}
use Rattle.query_words.specs.Numbers.{number_in}
use Rattle.query_words.specs.Options.{least_of, most_of}
use Rattle.query_words.specs.Grammar.{Bytes}

-- the option with this name
abbrev pub name_of : Bytes → Option OptionName
name_of word =
    if bytes_eq word (codes "--workers") then Some option.Workers
    else (if bytes_eq word (codes "--bases") then Some option.Bases
    else (if bytes_eq word (codes "--shards") then Some option.Shards
    else (if bytes_eq word (codes "--stop-at") then Some option.StopAt else None)))

-- what was given to an option
abbrev pub value_at : OptionName → Given → Option ℕ
value_at option.Workers given = given.workers
value_at option.Bases given = given.bases
value_at option.Shards given = given.shards
value_at option.StopAt given = given.stop_at

-- with the value of an option
abbrev pub with_value : OptionName → ℕ → Given → Given
with_value option.Workers n given = record given { workers = Some n }
with_value option.Bases n given = record given { bases = Some n }
with_value option.Shards n given = record given { shards = Some n }
with_value option.StopAt n given = record given { stop_at = Some n }

-- with the value of an option that had none, where the word is a number in its range
abbrev pub give_first : Option ℕ → OptionName → Bytes → Given → Option Given
give_first (Some before) name word given = None
give_first None name word given =
    option_and_then (λ n. Some (with_value name n given)) (number_in (least_of name) (most_of name) word)

abbrev pub give : OptionName → Bytes → Given → Option Given
give name word given = give_first (value_at name given) name word given

-- one more number of the command
abbrev pub count_on : Progress → Bytes → Option Progress
count_on progress.Run word = None
count_on progress.Generate word = option_and_then (λ seed. Some (progress.Seed seed)) (number_in 0 18446744073709551615 word)
count_on (progress.Seed seed) word = option_and_then (λ docs. Some (progress.Docs seed docs)) (number_in 0 20000 word)
count_on (progress.Docs seed docs) word =
    option_and_then (λ queries. Some (progress.Queries (record { seed = seed; docs = docs; queries = queries }))) (number_in 0 4096 word)
count_on (progress.Queries generation) word = None

abbrev pub is_equals : ℕ → Bool
is_equals b = b == 61

-- the value of an option, and then the next item
abbrev pub with_option : Option OptionName → Bytes → Reader → Option Reader
with_option None word reader = None
with_option (Some name) word reader =
    option_and_then (λ given. Some (record reader { place = place.Between; given = given })) (give name word reader.given)

abbrev pub with_number : Bytes → Reader → Option Reader
with_number word reader = option_and_then (λ counted. Some (record reader { progress = counted })) (count_on reader.progress word)

-- what stands before and behind the first `=` of a word: a name and its value; a word without one is a number
abbrev pub with_cut : Option ℕ → Bytes → Reader → Option Reader
with_cut None word reader = with_number word reader
with_cut (Some end) word reader = with_option (name_of (take end word)) (drop (end + 1) word) reader

-- a word that is neither `--` nor a name: a name with its value, or a number
abbrev pub with_plain : Bytes → Reader → Option Reader
with_plain word reader = with_cut (position is_equals word) word reader

abbrev pub with_named : Option OptionName → Bytes → Reader → Option Reader
with_named (Some name) word reader = Some (record reader { place = place.Before name })
with_named None word reader = with_plain word reader

-- the word between two items
abbrev pub with_item : Bytes → Reader → Option Reader
with_item word reader =
    if bytes_eq word (codes "--")
    then Some (record reader { place = place.Behind })
    else with_named (name_of word) word reader

abbrev pub at_place : Place → Bytes → Reader → Option Reader
at_place place.Between word reader = with_item word reader
at_place (place.Before name) word reader = with_option (Some name) word reader
at_place place.Behind word reader = with_number word reader

-- one more word
abbrev pub step : Reader → Bytes → Option Reader
step reader word = at_place reader.place word reader

abbrev pub settings_of : Given → Settings
settings_of given =
    record { workers = unwrap_or given.workers 4; bases = unwrap_or given.bases 2; shards = unwrap_or given.shards 4; stop_at = given.stop_at }

abbrev pub command_by : Progress → Settings → Option Command
command_by progress.Run settings = Some (command.Run settings)
command_by progress.Generate settings = None
command_by (progress.Seed seed) settings = None
command_by (progress.Docs seed docs) settings = None
command_by (progress.Queries generation) settings = Some (command.Generate generation settings)

abbrev pub ended : Place → Reader → Option Command
ended (place.Before name) reader = None
ended place.Between reader = command_by reader.progress (settings_of reader.given)
ended place.Behind reader = command_by reader.progress (settings_of reader.given)

-- the command of a reader that has no further words
abbrev pub command_at_end : Reader → Option Command
command_at_end reader = ended reader.place reader

-- the command that the further words make of what a reader has
abbrev pub command_from : Reader → List Bytes → Option Command
command_from reader [] = command_at_end reader
command_from reader (word ∷ words) = option_and_then (λ next. command_from next words) (step reader word)

abbrev pub nothing_given : Given
nothing_given = record { workers = None; bases = None; shards = None; stop_at = None }

abbrev pub reader_of : Progress → Reader
reader_of progress = record { place = place.Between; given = nothing_given; progress = progress }

abbrev pub started : Bytes → Option Progress
started first =
    if bytes_eq first (codes "run") then Some progress.Run
    else (if bytes_eq first (codes "gen") then Some progress.Generate else None)

-- the command that is read
abbrev pub command_of : List Bytes → Option Command
command_of [] = None
command_of (first ∷ words) = option_and_then (λ progress. command_from (reader_of progress) words) (started first)
