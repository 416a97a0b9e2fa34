-- What the parts of all shards come to.
use Rattle.std.specs.Prelude.{◌≡◌, ℕ, List, false}
use Rattle.fan_base.specs.declared.outcome.Fault.{Fault}
use Rattle.fan_base.specs.declared.outcome.Fault.TheVariants as fault
use Rattle.fan_base.specs.declared.outcome.Try.{Try}
use Rattle.fan_base.specs.declared.outcome.Try.TheVariants as try
use Rattle.query_model.specs.declared.line.Ask.{Ask}
use Rattle.query_model.specs.Documents.{docs_of}
use Rattle.query_model.specs.Parts.{part_before}
use Rattle.shard_index.specs.Parts.{by_shard}
use Rattle.query_parts.specs.declared.part.PartAnswer.{PartAnswer}
use Rattle.query_parts.specs.Parts.{part_answer}
use Rattle.fan_model.specs.Answered.{is_top}
use Rattle.fan_model.specs.Report.{Asking}
use Rattle.fan_parts.specs.Facts.{IsRankingOf}
use Rattle.fan_parts.specs.Seen.{AskSeen, PartSeen}
use Rattle.run_gathering.specs.declared.merge.Gathered.{Gathered}
use Rattle.run_gathering.specs.declared.merge.Gathered.TheVariants as gathered

-- the part of a shard
abbrev pub part_by : Asking → Ask → ℕ → ℕ → PartAnswer
part_by asked asks before shard = part_answer asks (part_before (docs_of asked.lines) asked.shards shard before)

-- the parts of so many shards, in their order
abbrev pub parts_by : Asking → Ask → ℕ → ℕ → List PartAnswer
parts_by asked asks before count = by_shard (part_by asked asks before) count

-- Why what came for this query and shard gives no content: its own fault; or it is the part of another task, which counts as broken.
abbrev pub LacksContent : ℕ → ℕ → Try PartSeen → Fault → Type 0
LacksContent number shard (try.Value part) lack = (lack ≡ fault.Broken) × (part.number ≡ number → part.shard ≡ shard → ⊥)
LacksContent number shard try.Broken lack = lack ≡ fault.Broken
LacksContent number shard try.Memory lack = lack ≡ fault.Memory
LacksContent number shard (try.Cancelled cause) lack = lack ≡ fault.Cancelled cause

module _ {N : Type 0} where
  -- a reply where no ranking is asked, and else the ranking
  abbrev pub HasGathered : Asking → AskSeen → Gathered N → Type 0
  HasGathered asked ask (gathered.Reply reply) = is_top ask.asks ≡ false
  HasGathered asked ask (gathered.Ranking ranking) = IsRankingOf asked ask.asks ask.before ranking
