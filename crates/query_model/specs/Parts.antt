-- The parts of the documents that shards have, what they find, and what is taken together of it.
use Rattle.std.specs.Prelude.{ℕ, ◌==◌, ◌+◌, ◌*◌, ◌%◌, List, [], ◌∷◌, map, take, length, sum, if◌then◌else◌}
use Rattle.std.specs.List.{count_by, flat_map, list_any, sum_by, zip}
use Rattle.fan_base.specs.declared.doc.Doc.{Doc}
use Rattle.fan_base.specs.declared.word.Word.{Word}
use Rattle.query_grammar.specs.Truth.{is_among}
use Rattle.query_model.specs.declared.line.Ask.{Ask}
use Rattle.query_model.specs.declared.reply.Hits.{Hits}
use Rattle.query_model.specs.Limits.{most_listed}
use Rattle.query_model.specs.Sorting.{sorted_by}
use Rattle.query_model.specs.Answers.{having, holds_for, ranked, ranks_before, times_in}
use Rattle.std.specs.Prelude.{nat_lt}

-- the documents that a shard has of these, which begin at a place
abbrev pub part_from : ℕ → List Doc → ℕ → ℕ → List Doc
part_from place [] shards number = []
part_from place (doc ∷ docs) shards number =
    if place % shards == number then doc ∷ part_from (place + 1) docs shards number else part_from (place + 1) docs shards number

-- the part of a shard: the documents at the places i, from 0, with i mod shards its number
abbrev pub part_of : List Doc → ℕ → ℕ → List Doc
part_of docs shards number = part_from 0 docs shards number

-- those of them at places below `before`
abbrev pub part_before : List Doc → ℕ → ℕ → ℕ → List Doc
part_before docs shards number before = part_of (take before docs) shards number

-- for each word the number of documents with it
abbrev pub counts_with : List Word → List Doc → List ℕ
counts_with words docs = map (λ word. length (having word docs)) words

-- the number of documents with at least one of the words
abbrev pub count_any : List Word → List Doc → ℕ
count_any words docs = count_by (λ doc. list_any (λ word. is_among word doc.words) words) docs

-- the score of a document by given weights
abbrev pub weighted_score : List (Word × ℕ) → Doc → ℕ
weighted_score weights doc = sum_by (λ pair. times_in doc pair.0 * pair.1) weights

-- the first `k` documents by given weights
unfoldable pub weighted_top : ℕ → List Word → List ℕ → List Doc → List (ℕ × ℕ)
weighted_top k words weights docs = take k (ranked (map (λ doc. (doc.id, weighted_score (zip words weights) doc)) docs))

-- the hits of several parts: the first 100 of all ids, ascending, and the sum of the totals
unfoldable pub merged_hits : List Hits → Hits
merged_hits parts = record { ids = take most_listed (sorted_by nat_lt (flat_map (λ hits. hits.ids) parts)); total = sum (map (λ hits. hits.total) parts) }

-- the scores of several parts: the first `k` of all
unfoldable pub merged_scores : ℕ → List (List (ℕ × ℕ)) → List (ℕ × ℕ)
merged_scores k parts = take k (sorted_by ranks_before (flat_map (λ scores. scores) parts))

-- what a task over the part of a shard is marked with: how many of its documents hold, or have one of the words
abbrev pub mark_of : Ask → List Doc → ℕ
mark_of asks docs = count_by (holds_for asks) docs
