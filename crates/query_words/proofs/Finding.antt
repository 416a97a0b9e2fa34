-- The command of the grammar is what is read.
use Rattle.std.proofs.Common.{◌≡◌, ℕ, List, [], ◌∷◌, Option, Some, unwrap_or, option_and_then, refl, ap, sym, subst, ◌∙◌}
use Rattle.query_words.specs.declared.command.Command.{Command}
use Rattle.query_words.specs.declared.command.Command.TheVariants as command
use Rattle.query_words.specs.declared.command.Settings.{Settings}
use Rattle.query_words.specs.declared.given.Given.{Given}
use Rattle.query_words.specs.declared.name.OptionName.{OptionName}
use Rattle.query_words.specs.declared.name.OptionName.TheVariants as option
use Rattle.query_words.specs.declared.reader.Place.TheVariants as place
use Rattle.query_words.specs.declared.reader.Progress.{Progress}
use Rattle.query_words.specs.declared.reader.Progress.TheVariants as progress
use Rattle.query_words.specs.declared.reader.Reader.{Reader}
use Rattle.query_words.specs.Grammar.{Bytes, Item, Ending, Line, words_of, values_of, numbers_of, HasSettings, IsCommand}
use Rattle.query_words.specs.Steps.{value_at, with_value, command_by, command_from, command_of, settings_of, nothing_given}
use Rattle.query_words.proofs.Filling.{EachFills, EachFills-first, give-from_parts, Fills-from_IsGiven}
use Rattle.query_words.proofs.Counting.{Counts, Counts-from_numbers}
use Rattle.query_words.proofs.Items.{reader_at, with_item-name, with_item-joined, with_item-number}
use Rattle.query_words.proofs.Reading.{values_by_name}

abbrev pub line_of : List Item → Ending → Line
line_of items ending = record { items = items; ending = ending }

-- where no further value is given, what is given stays
same_given : (given all : Given) → ((name : OptionName) → value_at name all ≡ value_at name given) → settings_of all ≡ settings_of given
same_given given all same =
    let w : all.workers ≡ given.workers = same option.Workers in
    let b : all.bases ≡ given.bases = same option.Bases in
    let s : all.shards ≡ given.shards = same option.Shards in
    let t : all.stop_at ≡ given.stop_at = same option.StopAt in
    cc

found_behind : (words : List Bytes) (given all : Given) (before counted : Progress) (read : Command) → settings_of all ≡ settings_of given → Counts before words counted
    → command_by counted (settings_of all) ≡ Some read → command_from (reader_at place.Behind given before) words ≡ Some read
found_behind [] given all before counted read same h e =
    subst (λ (p : Progress). command_by p (settings_of given) ≡ Some read) h (subst (λ (s : Settings). command_by counted s ≡ Some read) same e)
found_behind (word ∷ words) given all before counted read same h e = rw (h.1) (found_behind words given all h.0 counted read same h.2 e)

-- behind the first word of an item
abbrev Behind : List Bytes → Option Reader → Option Command
Behind words next = option_and_then (λ r. command_from r words) next

found_line : (items : List Item) (ending : Ending) (given all : Given) (before counted : Progress) (read : Command)
    → EachFills given (values_by_name (line_of items ending)) all → Counts before (numbers_of (line_of items ending)) counted → command_by counted (settings_of all) ≡ Some read
    → command_from (reader_at place.Between given before) (words_of (line_of items ending)) ≡ Some read
found_line [] Ending.nothing given all before counted read fills h e =
    subst (λ (p : Progress). command_by p (settings_of given) ≡ Some read) h (subst (λ (s : Settings). command_by counted s ≡ Some read) (same_given given all fills) e)
found_line [] (Ending.dashes numbers) given all before counted read fills h e = found_behind numbers given all before counted read (same_given given all fills) h e
found_line (Item.apart name value ∷ items) ending given all before counted read fills h e =
    let first = EachFills-first name value given all (values_by_name (line_of items ending)) fills in
    let gives = give-from_parts name value given first.0 first.1 first.2 in
    let rest = found_line items ending (with_value name first.0 given) all before counted read first.3 h e in
    ap (Behind (value ∷ words_of (line_of items ending))) (with_item-name name given before)
    ∙ (ap (λ (g : Option Given). Behind (words_of (line_of items ending)) (option_and_then (λ more. Some (reader_at place.Between more before)) g)) gives ∙ rest)
found_line (Item.joined name value ∷ items) ending given all before counted read fills h e =
    let first = EachFills-first name value given all (values_by_name (line_of items ending)) fills in
    let gives = give-from_parts name value given first.0 first.1 first.2 in
    let rest = found_line items ending (with_value name first.0 given) all before counted read first.3 h e in
    ap (Behind (words_of (line_of items ending))) (with_item-joined name value given before)
    ∙ (ap (λ (g : Option Given). Behind (words_of (line_of items ending)) (option_and_then (λ more. Some (reader_at place.Between more before)) g)) gives ∙ rest)
found_line (Item.number word ∷ items) ending given all before counted read fills h e =
    ap (Behind (words_of (line_of items ending))) (with_item-number before h.0 word given h.1)
    ∙ found_line items ending given all h.0 counted read fills h.2 e

-- what the settings of a line were given
pub given_by : (line : Line) (settings : Settings) → HasSettings line settings → Given
given_by line settings h = record { workers = h.workers.0; bases = h.bases.0; shards = h.shards.0; stop_at = settings.stop_at }

pub fills_by : (line : Line) (settings : Settings) (h : HasSettings line settings) → EachFills nothing_given (values_by_name line) (given_by line settings h)
unfolding given_by
fills_by line settings h option.Workers = Fills-from_IsGiven option.Workers (values_of option.Workers line) h.workers.0 h.workers.1
fills_by line settings h option.Bases = Fills-from_IsGiven option.Bases (values_of option.Bases line) h.bases.0 h.bases.1
fills_by line settings h option.Shards = Fills-from_IsGiven option.Shards (values_of option.Shards line) h.shards.0 h.shards.1
fills_by line settings h option.StopAt = Fills-from_IsGiven option.StopAt (values_of option.StopAt line) settings.stop_at h.stop_at

abbrev settings_from : ℕ → ℕ → ℕ → Option ℕ → Settings
settings_from workers bases shards stop_at = record { workers = workers; bases = bases; shards = shards; stop_at = stop_at }

settings_by : (line : Line) (settings : Settings) (h : HasSettings line settings) → settings_of (given_by line settings h) ≡ settings
unfolding given_by
settings_by line settings h =
    ap (λ (n : ℕ). settings_from n (unwrap_or h.bases.0 2) (unwrap_or h.shards.0 4) settings.stop_at) (sym h.workers.2)
    ∙ (ap (λ (n : ℕ). settings_from settings.workers n (unwrap_or h.shards.0 4) settings.stop_at) (sym h.bases.2)
    ∙ ap (λ (n : ℕ). settings_from settings.workers settings.bases n settings.stop_at) (sym h.shards.2))

pub is_read : (words : List Bytes) (read : Command) → IsCommand words read → command_of words ≡ Some read
is_read words (command.Run settings) h =
    let line = h.0 in
    let given = given_by line settings h.3 in
    subst (λ (ws : List Bytes). command_of ws ≡ Some (command.Run settings)) (sym h.1)
    (found_line line.items line.ending nothing_given given progress.Run progress.Run (command.Run settings) (fills_by line settings h.3)
    (subst (λ (ns : List Bytes). Counts progress.Run ns progress.Run) (sym h.2) refl)
    (ap (λ (s : Settings). Some (command.Run s)) (settings_by line settings h.3)))
is_read words (command.Generate generation settings) h =
    let line = h.0 in
    let given = given_by line settings h.3 in
    subst (λ (ws : List Bytes). command_of ws ≡ Some (command.Generate generation settings)) (sym h.1)
    (found_line line.items line.ending nothing_given given progress.Generate (progress.Queries generation) (command.Generate generation settings) (fills_by line settings h.3)
    (Counts-from_numbers generation (numbers_of line) h.2)
    (ap (λ (s : Settings). Some (command.Generate generation s)) (settings_by line settings h.3)))

pub one_command : (words : List Bytes) (a b : Command) → IsCommand words a → IsCommand words b → a ≡ b
one_command words a b h g =
    let x = is_read words a h in
    let y = is_read words b g in
    cc
