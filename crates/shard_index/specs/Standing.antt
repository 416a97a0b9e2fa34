-- For which documents an index stands.
use Rattle.std.specs.Prelude.{ℕ, ◌≡◌, ◌<◌, ◌≤◌, ◌+◌, ◌*◌, ◌^◌, All, Bool, List, get_or, length, map, take, true}
use Rattle.std.specs.List.{AllByRecursion}
use Rattle.std.specs.List.Sorted.{IsNonDecreasing}
use Rattle.fan_base.specs.declared.doc.Doc.{Doc}
use Rattle.fan_base.specs.declared.word.Word.{Word}
use Rattle.query_model.specs.Answers.{times_in}
use Rattle.query_model.specs.Limits.{most_words}
use Rattle.query_model.specs.Parts.{part_of}
use Rattle.shard_index.specs.declared.index.Index.{Index}
use Rattle.shard_index.specs.declared.shard.Shard.{Shard}
use Rattle.shard_index.specs.declared.shards.Shards.{Shards}
use Rattle.shard_index.specs.Bits.{HasBits}
use Rattle.shard_index.specs.Places.{places_where, standing_of}
use Rattle.word_table.specs.Numbers.{Knows, number_in, words_in}
use Rattle.word_table.specs.Told.{HasPlaces}

-- the words of each document are at most 1,000
abbrev pub AreShort : List Doc → Type 0
AreShort docs = All (λ doc. length doc.words ≤ most_words) docs

-- the index has the ids of these documents in their order, which ascend where it says so, for each word the places where it stands, and
-- for some the bits
pub record Indexes (index : Index) (docs : List Doc) : Type 0 where
  pub ids : index.ids.items ≡ map (λ doc. doc.id) docs
  pub ascends : index.ascending ≡ true → IsNonDecreasing index.ids.items
  pub knows : Knows index.dictionary.value (words_in index.dictionary.value)
  pub places : HasPlaces index.places (words_in index.dictionary.value) (λ word. standing_of word docs)
  pub bits : HasBits index.frequent (words_in index.dictionary.value) docs
  pub short : AreShort docs
  pub few : length docs < 2 ^ 32

-- the word has this number in the index's dictionary
abbrev pub IsNumberOf : Index → ℕ → Word → Type 0
IsNumberOf index number word = number ≡ number_in (words_in index.dictionary.value) word

-- the places are some of the first documents, and the number is a word's
pub record StandIn (index : Index) (places : List ℕ) (number : ℕ) : Type 0 where
  pub docs : List Doc
  pub test : Doc → Bool
  pub word : Word
  pub front : ℕ
  pub indexes : Indexes index docs
  pub places_are : places ≡ places_where test (take front docs)
  pub number_is : IsNumberOf index number word

-- the shard is the one with this number, of so many, of these documents
pub record StandsFor (shard : Shard) (docs : List Doc) (shards number : ℕ) : Type 0 where
  pub shards_are : shard.shards ≡ shards
  pub number_is : shard.number ≡ number
  pub within : number < shards
  pub indexes : Indexes shard.index (part_of docs shards number)

-- There are documents for which the index stands, the totals are those of the first of them by a score, and each has room for
-- the word's weight once for each time that it stands in the document.
pub record HasRoom (index : Index) (front : ℕ) (word : Word) (weight : ℕ) (totals : List ℕ) : Type 0 where
  pub docs : List Doc
  pub score : Doc → ℕ
  pub indexes : Indexes index docs
  pub totals_are : totals ≡ map score (take front docs)
  pub room : AllByRecursion (λ doc. score doc + times_in doc word * weight < 2 ^ 64) (take front docs)

-- the shard stands for some documents
pub record Stands (shard : Shard) : Type 0 where
  pub docs : List Doc
  pub shards : ℕ
  pub number : ℕ
  pub stands : StandsFor shard docs shards number

abbrev pub how_many : Shards → ℕ
how_many all = length all.shards.items

-- there is a shard at least, each stands for the part of these documents with its number, and places fit a u32
pub record StandForAll (all : Shards) (docs : List Doc) : Type 0 where
  pub some : 0 < how_many all
  pub docs_are : all.docs ≡ length docs
  pub few : length docs < 2 ^ 32
  pub each : (number : ℕ) (shard : Shard) → number < how_many all → StandsFor (get_or all.shards.items number shard) docs (how_many all) number

-- the shards are those of some documents
pub record StandForSome (all : Shards) : Type 0 where
  pub docs : List Doc
  pub stand : StandForAll all docs
