-- What the parts of all shards come to.
use Rattle.std.specs.Prelude.{ℕ, ◌≡◌, ◌<◌, ◌≤◌, ◌^◌, List, length, map, take}
use Rattle.fan_base.specs.declared.doc.Doc.{Doc}
use Rattle.fan_base.specs.declared.word.Word.{Word}
use Rattle.query_model.specs.declared.line.Ask.{Ask}
use Rattle.query_model.specs.declared.line.Ask.TheVariants as ask
use Rattle.query_model.specs.Answers.{answer, each_once, weight_of}
use Rattle.query_model.specs.Parts.{part_before}
use Rattle.shard_index.specs.declared.counts.Counts.{Counts}
use Rattle.shard_index.specs.declared.shard.Shard.{Shard}
use Rattle.shard_index.specs.Counting.{counts_of}
use Rattle.shard_index.specs.Parts.{by_shard}
use Rattle.query_parts.specs.declared.merge.Merged.{Merged}
use Rattle.query_parts.specs.declared.merge.Merged.TheVariants as merged
use Rattle.query_parts.specs.declared.ranking.Ranking.{Ranking}
use Rattle.query_parts.specs.Parts.{AreShards}

-- what a `top` asks of each shard: the words, each once, with their weights among these documents
abbrev pub ranking_of : ℕ → List Word → List Doc → Ranking
ranking_of k words docs = record { k = k; words = each_once words; weights = map (weight_of docs) (each_once words) }

-- what the parts come to over these documents, which are those before the query: the reply, or what a `top` asks next
abbrev pub merged_of : Ask → List Doc → Merged
merged_of (ask.Find e) docs = merged.Reply (answer (ask.Find e) docs)
merged_of (ask.Count e) docs = merged.Reply (answer (ask.Count e) docs)
merged_of (ask.Present e) docs = merged.Reply (answer (ask.Present e) docs)
merged_of (ask.Top k words) docs = merged.Ranking (ranking_of k words docs)

-- these are the counts of the words by all shards of these documents, behind the first `before` of which the query stands
pub record AreCounts (words : List Word) (docs : List Doc) (shards before : ℕ) (parts : List Counts) : Type 0 where
  pub some : 0 < shards
  pub few : length docs < 2 ^ 32
  pub within : before ≤ length docs
  pub parts_are : parts ≡ by_shard (λ number. counts_of words (part_before docs shards number before)) shards

-- the counts are those of some documents
pub record AreCountsOfSome (words : List Word) (before : ℕ) (parts : List Counts) : Type 0 where
  pub docs : List Doc
  pub shards : ℕ
  pub are : AreCounts words docs shards before parts

-- the ranking is that of a `top` over the first `before` documents of these, of which these are the shards
pub record IsRankingOver (ranking : Ranking) (shards : List Shard) (before : ℕ) : Type 0 where
  pub k : ℕ
  pub words : List Word
  pub docs : List Doc
  pub are : AreShards shards docs
  pub ranking_is : ranking ≡ ranking_of k words (take before docs)

-- these are the shards of these documents, and the query stands behind the first `before` of them
pub record AreAskedOf (shards : List Shard) (docs : List Doc) (before : ℕ) : Type 0 where
  pub are : AreShards shards docs
  pub within : before ≤ length docs

-- the shards are those of some documents
pub record AreAsked (shards : List Shard) (before : ℕ) : Type 0 where
  pub docs : List Doc
  pub asked : AreAskedOf shards docs before
