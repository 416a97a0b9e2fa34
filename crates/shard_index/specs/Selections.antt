-- Which documents a selection selects.
use Rattle.std.specs.Prelude.{ℕ, ◌≡◌, ◌<◌, ◌^◌, List, Bool, not, length, take, map, filter}
use Rattle.fan_base.specs.declared.doc.Doc.{Doc}
use Rattle.query_model.specs.declared.reply.Hits.{Hits}
use Rattle.query_model.specs.Answers.{ids_of}
use Rattle.query_model.specs.Limits.{most_listed}
use Rattle.shard_index.specs.declared.selection.Places.{Places}
use Rattle.shard_index.specs.declared.selection.Places.TheVariants.{Lent, Made}
use Rattle.shard_index.specs.declared.selection.Selection.{Selection}
use Rattle.shard_index.specs.declared.selection.Selection.TheVariants.{Those, AllBut}
use Rattle.shard_index.specs.Places.{places_where}

-- the places that are lent or made
abbrev pub places_in : Places → List ℕ
places_in (Lent places) = places.now
places_in (Made places) = places.items

-- of these documents the selection is of those that pass the test
abbrev pub Selects : Selection → (Doc → Bool) → List Doc → Type 0
Selects (Those places) test docs = places_in places ≡ places_where test docs
Selects (AllBut places) test docs = places_in places ≡ places_where (λ doc. not (test doc)) docs

-- the first 100 ids of the documents that pass a test, and how many pass
abbrev pub hits_where : (Doc → Bool) → List Doc → Hits
hits_where test docs = record { ids = take most_listed (ids_of (filter test docs)); total = length (filter test docs) }

-- there are documents with these ids, no more than places, and a test that the selected ones pass
pub record AreSelected (ids : List ℕ) (selection : Selection) : Type 0 where
  pub docs : List Doc
  pub test : Doc → Bool
  pub few : length ids < 2 ^ 32
  pub ids_are : ids ≡ map (λ doc. doc.id) docs
  pub selects : Selects selection test docs
