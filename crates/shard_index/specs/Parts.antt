-- What all shards give, and what is made of it.
use Rattle.std.specs.Prelude.{ℕ, ◌==◌, ◌/◌, List, map, get_or, sum, if◌then◌else◌}
use Rattle.std.specs.List.{range_with_len}
use Rattle.shard_index.specs.declared.counts.Counts.{Counts}

-- what each of so many shards gives, in the order of their numbers
abbrev pub by_shard : {A : Type 0} → (ℕ → A) → ℕ → List A
by_shard given shards = map given (range_with_len 0 shards)

-- how many documents of all parts have the word at a place
abbrev pub total_with : ℕ → List Counts → ℕ
total_with i parts = sum (map (λ part. get_or part.with i 0) parts)

-- the weight of a word that so many of all documents have
abbrev pub weight_by : ℕ → ℕ → ℕ
weight_by docs with = if with == 0 then 0 else docs / with

-- the weights of so many words among so many documents, by what all parts count
abbrev pub weights_by : ℕ → ℕ → List Counts → List ℕ
weights_by docs words parts = map (λ i. weight_by docs (total_with i parts)) (range_with_len 0 words)
