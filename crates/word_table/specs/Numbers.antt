-- Numbers of words: the places where they stand in a list of words that differ.
use Rattle.std.specs.Prelude.{ℕ, suc, ◌≡◌, ◌==◌, List, [], ◌∷◌, ◌++◌, length, nat_lt, get_or, ◌<◌, Option, Some, None, if◌then◌else◌}
use Rattle.std.specs.List.{fold}
use Rattle.std.specs.Ordering.{nat_cmp}
use Rattle.std.specs.Cmp.Lexicographic.{pointwise, slice_cmp}
use Rattle.std.specs.BTreeMap.{get}
use Rattle.std.specs.Int.{to_le_bytes, w64}
use Rattle.fan_base.specs.Word.{IsWord, padded}
use Rattle.fan_base.specs.declared.word.Word.{Word}
use Rattle.word_table.specs.declared.dictionary.Dictionary.{Dictionary}

-- the number of a word: the place where it stands first, or how many words there are where it is none of them
abbrev pub number_in : List Word → Word → ℕ
number_in [] word = 0
number_in (other ∷ words) word = if pointwise ◌==◌ other word then 0 else suc (number_in words word)

-- the words, with one more behind them where it is new
abbrev pub with_word : List Word → Word → List Word
with_word words word = if nat_lt (number_in words word) (length words) then words else words ++ word ∷ []

-- the words, with several more, each where it is new
abbrev pub with_words : List Word → List Word → List Word
with_words known words = fold with_word known words

-- the number of a word that is one of them
abbrev pub found_in : List Word → Word → Option ℕ
found_in words word = if nat_lt (number_in words word) (length words) then Some (number_in words word) else None

-- one of a word's bytes, or 0 behind them
abbrev pub byte_at : Word → ℕ → ℕ
byte_at word i = get_or (padded word) i 0

-- the first eight bytes of a word, with zeros behind it
abbrev pub first_bytes : Word → List ℕ
first_bytes word = byte_at word 0 ∷ byte_at word 1 ∷ byte_at word 2 ∷ byte_at word 3 ∷ byte_at word 4 ∷ byte_at word 5 ∷ byte_at word 6 ∷ byte_at word 7 ∷ []

-- the number has a word's first eight bytes
pub record HasKey (key : ℕ) (word : Word) : Type 0 where
  pub is_word : IsWord word
  pub bytes : to_le_bytes w64 key ≡ first_bytes word

-- the words of a dictionary
abbrev pub words_in : Dictionary → List Word
words_in dictionary = dictionary.words.items

-- the word has this number
pub record IsAt (words : List Word) (number : ℕ) (word : Word) : Type 0 where
  pub within : number < length words
  pub is : get_or words number word ≡ word

-- there is a key for each word, which has the word's first bytes
pub record AreKeyed (keys : List ℕ) (words : List Word) : Type 0 where
  pub many : length keys ≡ length words
  pub each : (number : ℕ) (word : Word) → IsAt words number word → HasKey (get_or keys number 0) word

-- the dictionary has these words, which differ, in the order of their numbers, and a key for each
pub record Knows (dictionary : Dictionary) (words : List Word) : Type 0 where
  pub words_are : dictionary.words.items ≡ words
  pub keyed : AreKeyed dictionary.keys.items dictionary.words.items
  pub numbered : (word : Word) → get (slice_cmp nat_cmp) dictionary.numbers word ≡ found_in words word
  pub differ : (number : ℕ) (word : Word) → IsAt words number word → number_in words word ≡ number
