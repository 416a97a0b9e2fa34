-- What one shard gives for a query.
use Rattle.std.specs.Prelude.{ℕ, ◌≡◌, ◌+◌, ◌<◌, ◌≤◌, ◌^◌, List, Option, Some, None, get_or, length}
use Rattle.fan_base.specs.declared.doc.Doc.{Doc}
use Rattle.query_model.specs.declared.line.Ask.{Ask}
use Rattle.query_model.specs.declared.line.Ask.TheVariants as ask
use Rattle.query_model.specs.declared.reply.Hits.{Hits}
use Rattle.query_model.specs.Answers.{hits_of, holding}
use Rattle.query_model.specs.Parts.{part_before}
use Rattle.shard_index.specs.declared.counts.Counts.{Counts}
use Rattle.shard_index.specs.declared.shard.Shard.{Shard}
use Rattle.shard_index.specs.Counting.{counts_of}
use Rattle.shard_index.specs.Parts.{by_shard}
use Rattle.shard_index.specs.Standing.{StandsFor}
use Rattle.query_parts.specs.declared.part.PartAnswer.{PartAnswer}
use Rattle.query_parts.specs.declared.part.PartAnswer.TheVariants as part

-- what is to be given of these documents, which are those of one shard before the query
abbrev pub part_answer : Ask → List Doc → PartAnswer
part_answer (ask.Find e) docs = part.Find (hits_of e docs)
part_answer (ask.Count e) docs = part.Count (length (holding e docs))
part_answer (ask.Present e) docs = part.Present (length (holding e docs))
part_answer (ask.Top k words) docs = part.Top (counts_of words docs)

-- how many documents the part tells of: those that hold, or that have one of the words
abbrev pub mark_in : PartAnswer → ℕ
mark_in (part.Find hits) = hits.total
mark_in (part.Count total) = total
mark_in (part.Present total) = total
mark_in (part.Top counts) = counts.any

-- the hits that a part has, and the counts
abbrev pub hits_in : PartAnswer → Option Hits
hits_in (part.Find hits) = Some hits
hits_in (part.Count _) = None
hits_in (part.Present _) = None
hits_in (part.Top _) = None

abbrev pub counts_in : PartAnswer → Option Counts
counts_in (part.Find _) = None
counts_in (part.Count _) = None
counts_in (part.Present _) = None
counts_in (part.Top counts) = Some counts

-- these are all shards of these documents, by number
pub record AreShards (shards : List Shard) (docs : List Doc) : Type 0 where
  pub some : 0 < length shards
  pub few : length docs < 2 ^ 32
  pub each : (number : ℕ) (shard : Shard) → number < length shards → StandsFor (get_or shards number shard) docs (length shards) number

-- these are shards of these documents, of so many in all, with the numbers from the first on
abbrev pub StandFrom : List Shard → List Doc → ℕ → ℕ → Type 0
StandFrom some docs shards first = (i : ℕ) (shard : Shard) → i < length some → StandsFor (get_or some i shard) docs shards (first + i)

-- these are the parts of all shards of these documents for a query behind the first `before` of them, by number
pub record AreParts (asks : Ask) (docs : List Doc) (shards before : ℕ) (parts : List PartAnswer) : Type 0 where
  pub some : 0 < shards
  pub few : length docs < 2 ^ 32
  pub within : before ≤ length docs
  pub parts_are : parts ≡ by_shard (λ number. part_answer asks (part_before docs shards number before)) shards

-- the parts are those of some documents
pub record ArePartsOfSome (asks : Ask) (before : ℕ) (parts : List PartAnswer) : Type 0 where
  pub docs : List Doc
  pub shards : ℕ
  pub are : AreParts asks docs shards before parts
