-- How often words stand in documents.
use Rattle.std.specs.Prelude.{◌≡◌, List, [], ◌∷◌, Bool, false}
use Rattle.fan_base.specs.declared.doc.Doc.{Doc}
use Rattle.fan_base.specs.declared.word.Word.{Word}
use Rattle.query_grammar.specs.Truth.{is_among}
use Rattle.query_model.specs.Parts.{count_any, counts_with}
use Rattle.shard_index.specs.declared.counts.Counts.{Counts}

-- of how many documents each word is one, and how many have one of them
abbrev pub counts_of : List Word → List Doc → Counts
counts_of words docs = record { with = counts_with words docs; any = count_any words docs }

-- no word stands again behind itself
abbrev pub DifferentWords : List Word → Type 0
DifferentWords [] = Unit {0}
DifferentWords (word ∷ words) = (is_among word words ≡ false) × DifferentWords words

-- for each word whether it stands again behind itself
abbrev pub stand_again : List Word → List Bool
stand_again [] = []
stand_again (word ∷ words) = is_among word words ∷ stand_again words
