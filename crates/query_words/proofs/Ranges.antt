-- What the grammar says of the words and of the numbers of a command.
use Rattle.std.proofs.Common.{◌≡◌, ◌≤◌, ◌<◌, ◌++◌, ℕ, Bool, true, false, ◌&&◌, nat_le, nat_lt, List, [], ◌∷◌, length, Option, Some, None, unwrap_or, codes, if◌then◌else◌, refl, sym, subst, arith}
use Rattle.std.specs.Char.{is_ascii, is_ascii_digit}
use Rattle.std.specs.List.{list_all}
use Rattle.std.specs.Option.{IfSome}
use Rattle.std.proofs.lemmas.Bool.{and_parts, and_from, leb-true, lt-ltb}
use Rattle.std.proofs.lemmas.Bool.Decides.{nat_tests}
use Rattle.query_words.specs.declared.command.Command.{Command}
use Rattle.query_words.specs.declared.command.Command.TheVariants as command
use Rattle.query_words.specs.declared.command.Generation.{Generation}
use Rattle.query_words.specs.declared.command.Settings.{Settings}
use Rattle.query_words.specs.declared.given.Given.{Given}
use Rattle.query_words.specs.declared.name.OptionName.{OptionName}
use Rattle.query_words.specs.declared.name.OptionName.TheVariants as option
use Rattle.query_words.specs.declared.reader.Progress.{Progress}
use Rattle.query_words.specs.declared.reader.Progress.TheVariants as progress
use Rattle.query_words.specs.Numbers.{is_number, number_of, number_in}
use Rattle.query_words.specs.Options.{text_of, least_of, most_of}
use Rattle.query_words.specs.Grammar.{Bytes, Item, Ending, Line, words_of, values_of, numbers_of, IsGiven, HasSettings, AreNumbersOf, IsCommand}
use Rattle.query_words.specs.Laws.{is_ascii_word, AreSettingsInRange, AreNumbersInRange, IsInRange}
use Rattle.query_words.specs.Steps.{with_value, nothing_given}
use Rattle.query_words.proofs.Options.{same_Some}
use Rattle.query_words.proofs.Filling.{EachFills, EachFills-first}
use Rattle.query_words.proofs.Counting.{Counts, Counts-from_numbers}
use Rattle.query_words.proofs.Items.{is_number-count_on}
use Rattle.query_words.proofs.Reading.{values_by_name}
use Rattle.query_words.proofs.Finding.{line_of, given_by, fills_by}

-- a number that is read is in its range, and its word is digits
pub record IsRead (least most : ℕ) (word : Bytes) (n : ℕ) : Type 0 where
  pub digits : is_number word ≡ true
  pub low : least ≤ n
  pub high : n ≤ most

pub IsRead-number_in : (least most : ℕ) (word : Bytes) (n : ℕ) → number_in least most word ≡ Some n → IsRead least most word n
IsRead-number_in least most word n e = by (is_number word) (nat_le least (number_of word)) (nat_le (number_of word) most) refl refl refl e
  where
    by : (a b c : Bool) → is_number word ≡ a → nat_le least (number_of word) ≡ b → nat_le (number_of word) most ≡ c
        → (if a && (b && c) then Some (number_of word) else None) ≡ Some n → IsRead least most word n
    by true true true ea eb ec e =
        let same = same_Some _ _ e in
        record { digits = ea; low = subst (λ (m : ℕ). least ≤ m) same (leb-true least (number_of word) eb); high = subst (λ (m : ℕ). m ≤ most) same (leb-true (number_of word) most ec) }
    by true true false ea eb ec e = cc
    by true false c ea eb ec e = cc
    by false b c ea eb ec e = cc

-- a value is in the range of its option, where its default is
value_in_range : (name : OptionName) (words : List Bytes) (given : Option ℕ) (default : ℕ) → IsGiven name words given → least_of name ≤ default → default ≤ most_of name
    → (least_of name ≤ unwrap_or given default) × (unwrap_or given default ≤ most_of name)
value_in_range name [] given default h low high = rw h (low, high)
value_in_range name (word ∷ []) given default h low high =
    let is = IsRead-number_in (least_of name) (most_of name) word h.0 h.2 in
    rw (h.1) (is.low, is.high)
value_in_range name (word ∷ (another ∷ more)) given default h low high = absurd h

stop_in_range : (words : List Bytes) (given : Option ℕ) → IsGiven option.StopAt words given → IfSome given (λ n. n ≤ 4294967295)
stop_in_range [] given h = rw h tt
stop_in_range (word ∷ []) given h = rw (h.1) ((IsRead-number_in 0 4294967295 word h.0 h.2).high)
stop_in_range (word ∷ (another ∷ more)) given h = absurd h

settings_in_range : (line : Line) (settings : Settings) → HasSettings line settings → AreSettingsInRange settings
settings_in_range line settings h =
    let w = value_in_range option.Workers (values_of option.Workers line) h.workers.0 4 h.workers.1 (omega arith) (omega arith) in
    let b = value_in_range option.Bases (values_of option.Bases line) h.bases.0 2 h.bases.1 (omega arith) (omega arith) in
    let s = value_in_range option.Shards (values_of option.Shards line) h.shards.0 4 h.shards.1 (omega arith) (omega arith) in
    record {
      some_workers = subst (λ (n : ℕ). 1 ≤ n) (sym h.workers.2) w.0;
      few_workers = subst (λ (n : ℕ). n ≤ 32) (sym h.workers.2) w.1;
      some_bases = subst (λ (n : ℕ). 1 ≤ n) (sym h.bases.2) b.0;
      few_bases = subst (λ (n : ℕ). n ≤ 8) (sym h.bases.2) b.1;
      some_shards = subst (λ (n : ℕ). 1 ≤ n) (sym h.shards.2) s.0;
      few_shards = subst (λ (n : ℕ). n ≤ 64) (sym h.shards.2) s.1;
      stop_at = stop_in_range (values_of option.StopAt line) settings.stop_at h.stop_at;
    }

numbers_in_range : (generation : Generation) (words : List Bytes) → AreNumbersOf generation words → AreNumbersInRange generation
numbers_in_range generation [] h = absurd h
numbers_in_range generation (seed ∷ []) h = absurd h
numbers_in_range generation (seed ∷ (docs ∷ [])) h = absurd h
numbers_in_range generation (seed ∷ (docs ∷ (queries ∷ []))) h = record {
  seed = (IsRead-number_in 0 18446744073709551615 seed generation.seed h.0).high;
  docs = (IsRead-number_in 0 20000 docs generation.docs h.1).high;
  queries = (IsRead-number_in 0 4096 queries generation.queries h.2).high;
}
numbers_in_range generation (seed ∷ (docs ∷ (queries ∷ (word ∷ words)))) h = absurd h

pub is_in_range : (words : List Bytes) (read : Command) → IsCommand words read → IsInRange read
is_in_range words (command.Run settings) h = settings_in_range h.0 settings h.3
is_in_range words (command.Generate generation settings) h = (numbers_in_range generation (numbers_of h.0) h.2, settings_in_range h.0 settings h.3)

-- the words
is_ascii-digit : (b : ℕ) → is_ascii_digit b ≡ true → is_ascii b ≡ true
is_ascii-digit b h = grind (arith, nat_tests)

list_all-digits : (word : Bytes) → list_all is_ascii_digit word ≡ true → list_all is_ascii word ≡ true
list_all-digits [] h = refl
list_all-digits (b ∷ bs) h =
    let parts = and_parts (is_ascii_digit b) (list_all is_ascii_digit bs) h in
    and_from (is_ascii b) (list_all is_ascii bs) (is_ascii-digit b parts.0) (list_all-digits bs parts.1)

is_ascii_word-number : (word : Bytes) → is_number word ≡ true → is_ascii_word word ≡ true
is_ascii_word-number word h =
    let parts = and_parts (nat_lt 0 (length word)) (list_all is_ascii_digit word) h in
    and_from (nat_lt 0 (length word)) (list_all is_ascii word) parts.0 (list_all-digits word parts.1)

is_ascii_word-name : (name : OptionName) → is_ascii_word (text_of name) ≡ true
is_ascii_word-name option.Workers = refl
is_ascii_word-name option.Bases = refl
is_ascii_word-name option.Shards = refl
is_ascii_word-name option.StopAt = refl

is_ascii_word-some : (word : Bytes) → 0 < length word → list_all is_ascii word ≡ true → is_ascii_word word ≡ true
is_ascii_word-some word some h = and_from (nat_lt 0 (length word)) (list_all is_ascii word) (lt-ltb 0 (length word) some) h

is_ascii_word-joined : (name : OptionName) (value : Bytes) → list_all is_ascii value ≡ true → is_ascii_word (text_of name ++ (codes "=" ++ value)) ≡ true
is_ascii_word-joined option.Workers value h = is_ascii_word-some (text_of option.Workers ++ (codes "=" ++ value)) (omega arith) h
is_ascii_word-joined option.Bases value h = is_ascii_word-some (text_of option.Bases ++ (codes "=" ++ value)) (omega arith) h
is_ascii_word-joined option.Shards value h = is_ascii_word-some (text_of option.Shards ++ (codes "=" ++ value)) (omega arith) h
is_ascii_word-joined option.StopAt value h = is_ascii_word-some (text_of option.StopAt ++ (codes "=" ++ value)) (omega arith) h

numbers_are_ascii : (words : List Bytes) (before after : Progress) → Counts before words after → list_all is_ascii_word words ≡ true
numbers_are_ascii [] before after h = refl
numbers_are_ascii (word ∷ words) before after h =
    and_from (is_ascii_word word) (list_all is_ascii_word words) (is_ascii_word-number word (is_number-count_on before h.0 word h.1)) (numbers_are_ascii words h.0 after h.2)

value_digits : (name : OptionName) (word : Bytes) (n : ℕ) → number_in (least_of name) (most_of name) word ≡ Some n → is_number word ≡ true
value_digits name word n e = (IsRead-number_in (least_of name) (most_of name) word n e).digits

line_is_ascii : (items : List Item) (ending : Ending) (given all : Given) (before after : Progress)
    → EachFills given (values_by_name (line_of items ending)) all → Counts before (numbers_of (line_of items ending)) after → list_all is_ascii_word (words_of (line_of items ending)) ≡ true
line_is_ascii [] Ending.nothing given all before after fills h = refl
line_is_ascii [] (Ending.dashes numbers) given all before after fills h = numbers_are_ascii numbers before after h
line_is_ascii (Item.apart name value ∷ items) ending given all before after fills h =
    let first = EachFills-first name value given all (values_by_name (line_of items ending)) fills in
    let rest = line_is_ascii items ending (with_value name first.0 given) all before after first.3 h in
    and_from (is_ascii_word (text_of name)) (list_all is_ascii_word (value ∷ words_of (line_of items ending))) (is_ascii_word-name name)
    (and_from (is_ascii_word value) (list_all is_ascii_word (words_of (line_of items ending))) (is_ascii_word-number value (value_digits name value first.0 first.2)) rest)
line_is_ascii (Item.joined name value ∷ items) ending given all before after fills h =
    let first = EachFills-first name value given all (values_by_name (line_of items ending)) fills in
    let rest = line_is_ascii items ending (with_value name first.0 given) all before after first.3 h in
    let digits = (and_parts (nat_lt 0 (length value)) (list_all is_ascii_digit value) (value_digits name value first.0 first.2)).1 in
    and_from (is_ascii_word (text_of name ++ (codes "=" ++ value))) (list_all is_ascii_word (words_of (line_of items ending)))
    (is_ascii_word-joined name value (list_all-digits value digits)) rest
line_is_ascii (Item.number word ∷ items) ending given all before after fills h =
    and_from (is_ascii_word word) (list_all is_ascii_word (words_of (line_of items ending))) (is_ascii_word-number word (is_number-count_on before h.0 word h.1))
    (line_is_ascii items ending given all h.0 after fills h.2)

pub words_are_ascii : (words : List Bytes) (read : Command) → IsCommand words read → list_all is_ascii_word words ≡ true
words_are_ascii words (command.Run settings) h =
    let line = h.0 in
    subst (λ (ws : List Bytes). list_all is_ascii_word ws ≡ true) (sym h.1)
    (line_is_ascii line.items line.ending nothing_given (given_by line settings h.3) progress.Run progress.Run (fills_by line settings h.3)
    (subst (λ (ns : List Bytes). Counts progress.Run ns progress.Run) (sym h.2) refl))
words_are_ascii words (command.Generate generation settings) h =
    let line = h.0 in
    subst (λ (ws : List Bytes). list_all is_ascii_word ws ≡ true) (sym h.1)
    (line_is_ascii line.items line.ending nothing_given (given_by line settings h.3) progress.Generate (progress.Queries generation) (fills_by line settings h.3)
    (Counts-from_numbers generation (numbers_of line) h.2))
