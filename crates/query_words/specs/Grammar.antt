-- The grammar of the command line: which words are which command.
use Rattle.std.specs.Prelude.{◌≡◌, ℕ, List, [], ◌∷◌, ◌++◌, Option, Some, None, unwrap_or, codes, if◌then◌else◌}
use Rattle.std.specs.List.{flat_map}
use Rattle.query_words.specs.declared.command.Command.{Command}
use Rattle.query_words.specs.declared.command.Command.TheVariants as command
use Rattle.query_words.specs.declared.command.Generation.{Generation}
use Rattle.query_words.specs.declared.command.Settings.{Settings}
use Rattle.query_words.specs.declared.name.OptionName.{OptionName}
use Rattle.query_words.specs.declared.name.OptionName.TheVariants as option
use Rattle.query_words.specs.Numbers.{number_in}
use Rattle.query_words.specs.Options.{text_of, least_of, most_of, is_same}

-- a word, by its bytes
abbrev pub Bytes : Type 0
Bytes = List ℕ

-- An option with its value, or a number.
pub data Item : Type 0 where
  -- NAME VALUE, two words
  apart : OptionName → Bytes → Item
  -- NAME=VALUE, one word
  joined : OptionName → Bytes → Item
  number : Bytes → Item

-- How the words end: behind the items there may be `--`, and behind that numbers alone.
pub data Ending : Type 0 where
  nothing : Ending
  dashes : List Bytes → Ending

-- the words behind the first one
pub record Line : Type 0 where
  pub items : List Item
  pub ending : Ending

abbrev pub words_of_item : Item → List Bytes
words_of_item (apart name value) = text_of name ∷ (value ∷ [])
words_of_item (joined name value) = (text_of name ++ (codes "=" ++ value)) ∷ []
words_of_item (number word) = word ∷ []

abbrev pub words_of_ending : Ending → List Bytes
words_of_ending nothing = []
words_of_ending (dashes numbers) = codes "--" ∷ numbers

abbrev pub words_of : Line → List Bytes
words_of line = flat_map words_of_item line.items ++ words_of_ending line.ending

-- the values that an item gives to an option
abbrev pub values_in : OptionName → Item → List Bytes
values_in name (apart other value) = if is_same name other then value ∷ [] else []
values_in name (joined other value) = if is_same name other then value ∷ [] else []
values_in name (number word) = []

-- the values that the words give to an option
abbrev pub values_of : OptionName → Line → List Bytes
values_of name line = flat_map (values_in name) line.items

abbrev pub numbers_in : Item → List Bytes
numbers_in (apart name value) = []
numbers_in (joined name value) = []
numbers_in (number word) = word ∷ []

abbrev pub numbers_behind : Ending → List Bytes
numbers_behind nothing = []
numbers_behind (dashes numbers) = numbers

-- the numbers before and behind `--`, from the left
abbrev pub numbers_of : Line → List Bytes
numbers_of line = flat_map numbers_in line.items ++ numbers_behind line.ending

-- What an option is given by these values: nothing, or one number in its range.
abbrev pub IsGiven : OptionName → List Bytes → Option ℕ → Type 0
IsGiven name [] given = given ≡ None
IsGiven name (word ∷ []) given = (n : ℕ) × (given ≡ Some n) × (number_in (least_of name) (most_of name) word ≡ Some n)
IsGiven name (word ∷ (another ∷ more)) given = ⊥

-- the option has this value: the one that it is given, or else its default
abbrev pub HasValue : OptionName → Line → ℕ → ℕ → Type 0
HasValue name line default value = (given : Option ℕ) × IsGiven name (values_of name line) given × (value ≡ unwrap_or given default)

-- The settings of the options.
pub record HasSettings (line : Line) (settings : Settings) : Type 0 where
  pub workers : HasValue option.Workers line 4 settings.workers
  pub bases : HasValue option.Bases line 2 settings.bases
  pub shards : HasValue option.Shards line 4 settings.shards
  pub stop_at : IsGiven option.StopAt (values_of option.StopAt line) settings.stop_at

-- SEED, DOCS and QUERIES: three numbers in their ranges
abbrev pub AreNumbersOf : Generation → List Bytes → Type 0
AreNumbersOf generation (seed ∷ (docs ∷ (queries ∷ []))) =
    (number_in 0 18446744073709551615 seed ≡ Some generation.seed)
    × (number_in 0 20000 docs ≡ Some generation.docs)
    × (number_in 0 4096 queries ≡ Some generation.queries)
AreNumbersOf generation _ = ⊥

-- the words are this command
abbrev pub IsCommand : List Bytes → Command → Type 0
IsCommand words (command.Run settings) =
    (line : Line) × (words ≡ codes "run" ∷ words_of line) × (numbers_of line ≡ []) × HasSettings line settings
IsCommand words (command.Generate generation settings) =
    (line : Line) × (words ≡ codes "gen" ∷ words_of line) × AreNumbersOf generation (numbers_of line) × HasSettings line settings

-- the words are no command
abbrev pub IsOutside : List Bytes → Type 0
IsOutside words = (c : Command) → ¬ IsCommand words c
