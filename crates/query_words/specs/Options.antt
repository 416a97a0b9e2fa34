-- The options: their texts and their ranges.
use Rattle.std.specs.Prelude.{ℕ, List, Bool, true, false, codes}
use Rattle.query_words.specs.declared.name.OptionName.{OptionName}
use Rattle.query_words.specs.declared.name.OptionName.TheVariants.{Workers, Bases, Shards, StopAt}

abbrev pub text_of : OptionName → List ℕ
text_of Workers = codes "--workers"
text_of Bases = codes "--bases"
text_of Shards = codes "--shards"
text_of StopAt = codes "--stop-at"

abbrev pub least_of : OptionName → ℕ
least_of Workers = 1
least_of Bases = 1
least_of Shards = 1
least_of StopAt = 0

abbrev pub most_of : OptionName → ℕ
most_of Workers = 32
most_of Bases = 8
most_of Shards = 64
most_of StopAt = 4294967295

-- whether two options are one
abbrev pub is_same : OptionName → OptionName → Bool
is_same Workers Workers = true
is_same Bases Bases = true
is_same Shards Shards = true
is_same StopAt StopAt = true
is_same _ _ = false
