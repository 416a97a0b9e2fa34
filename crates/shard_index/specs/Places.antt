-- At which places documents stand that pass a test, and where a word stands.
use Rattle.std.specs.Prelude.{ℕ, ◌+◌, List, [], ◌∷◌, ◌++◌, Bool, replicate, nat_lt, if◌then◌else◌}
use Rattle.std.specs.List.{list_any}
use Rattle.fan_base.specs.declared.doc.Doc.{Doc}
use Rattle.fan_base.specs.declared.word.Word.{Word}
use Rattle.query_grammar.specs.Tree.{Tree}
use Rattle.query_grammar.specs.Truth.{is_among, is_true}
use Rattle.query_model.specs.Answers.{times_in}

abbrev pub has_word : Word → Doc → Bool
has_word word doc = is_among word doc.words

abbrev pub has_one : List Word → Doc → Bool
has_one words doc = list_any (λ word. is_among word doc.words) words

abbrev pub holds_in : Tree → Doc → Bool
holds_in e doc = is_true e doc.words

-- the places of the documents that pass a test, of which the first stands at this place
abbrev pub places_from : ℕ → (Doc → Bool) → List Doc → List ℕ
places_from place test [] = []
places_from place test (doc ∷ docs) =
    if test doc then place ∷ places_from (place + 1) test docs else places_from (place + 1) test docs

-- the places, from 0, of the documents that pass a test
abbrev pub places_where : (Doc → Bool) → List Doc → List ℕ
places_where test docs = places_from 0 test docs

-- for each document its place, once for each time that the word stands there
abbrev pub standing_from : ℕ → Word → List Doc → List ℕ
standing_from place word [] = []
standing_from place word (doc ∷ docs) = replicate (times_in doc word) place ++ standing_from (place + 1) word docs

abbrev pub standing_of : Word → List Doc → List ℕ
standing_of word docs = standing_from 0 word docs

-- the places from the first on, up to one that isn't below this number
abbrev pub front_of : ℕ → List ℕ → List ℕ
front_of front [] = []
front_of front (place ∷ places) = if nat_lt place front then place ∷ front_of front places else []
