-- Documents that pass a test, by their places, with their scores.
use Rattle.std.specs.Prelude.{ℕ, ◌≡◌, ◌<◌, ◌+◌, ◌*◌, ◌^◌, List, [], ◌∷◌, Bool, false, length, take, if◌then◌else◌}
use Rattle.std.specs.List.{AllByRecursion}
use Rattle.fan_base.specs.declared.doc.Doc.{Doc}
use Rattle.fan_base.specs.declared.word.Word.{Word}
use Rattle.query_model.specs.Answers.{times_in}
use Rattle.word_table.specs.Told.{repeated}
use Rattle.shard_index.specs.declared.index.Index.{Index}
use Rattle.shard_index.specs.Places.{has_word, places_where, standing_of}
use Rattle.shard_index.specs.Standing.{Indexes}

-- the places of the documents that pass a test, each with the document's score; the first document stands at this place
abbrev pub scored_from : ℕ → (Doc → Bool) → (Doc → ℕ) → List Doc → List (ℕ × ℕ)
scored_from place test score [] = []
scored_from place test score (doc ∷ docs) =
    if test doc then (place, score doc) ∷ scored_from (place + 1) test score docs else scored_from (place + 1) test score docs

-- these are the places, from 0, of the documents that pass a test, with their scores, and the others' score is 0
pub record AreScored (scored : List (ℕ × ℕ)) (test : Doc → Bool) (score : Doc → ℕ) (docs : List Doc) : Type 0 where
  pub are : scored ≡ scored_from 0 test score docs
  pub others : (doc : Doc) → test doc ≡ false → score doc ≡ 0

-- the places are those of the documents with a word, and beside each is how often it stands there
pub record StandAt (places times : List ℕ) (word : Word) (docs : List Doc) : Type 0 where
  pub once : places ≡ places_where (has_word word) docs
  pub many : length times ≡ length places
  pub are : repeated places times ≡ standing_of word docs

-- Of some documents these are the scores and the places of a word, and each score has room for the word's weight as often as it stands there.
pub record HasRoomAt (scored : List (ℕ × ℕ)) (places times : List ℕ) (weight : ℕ) : Type 0 where
  pub docs : List Doc
  pub test : Doc → Bool
  pub score : Doc → ℕ
  pub word : Word
  pub scored_are : AreScored scored test score docs
  pub stand : StandAt places times word docs
  pub room : AllByRecursion (λ doc. score doc + times_in doc word * weight < 2 ^ 64) docs

-- The same of the first documents of an index.
pub record HasRoomIn (index : Index) (front : ℕ) (word : Word) (weight : ℕ) (scored : List (ℕ × ℕ)) : Type 0 where
  pub docs : List Doc
  pub test : Doc → Bool
  pub score : Doc → ℕ
  pub indexes : Indexes index docs
  pub scored_are : AreScored scored test score (take front docs)
  pub room : AllByRecursion (λ doc. score doc + times_in doc word * weight < 2 ^ 64) (take front docs)
