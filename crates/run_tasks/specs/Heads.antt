-- The head of a task, and what its run sets and is marked by.
use Rattle.std.specs.Prelude.{◌≡◌, ℕ}
use Rattle.fan_base.specs.declared.number.Mark.{Mark}
use Rattle.fan_base.specs.declared.number.Mark.TheVariants as mark
use Rattle.fan_base.specs.declared.outcome.Try.{Try}
use Rattle.fan_base.specs.declared.outcome.Try.TheVariants as try
use Rattle.job_trait.specs.declared.job.Head.{Head}
use Rattle.query_model.specs.Documents.{docs_of}
use Rattle.query_model.specs.Parts.{mark_of, part_before}
use Rattle.fan_model.specs.Report.{Asking}
use Rattle.fan_model.specs.Tasks.{job_of}
use Rattle.fan_parts.specs.Seen.{AskSeen, PartSeen}
use Rattle.run_tasks.specs.Seen.{TaskSeen}

-- how many of the shard's documents before the query hold for what it asks, or for `top` have one of the words
abbrev pub count_at : Asking → AskSeen → ℕ → ℕ
count_at asked ask shard = mark_of ask.asks (part_before (docs_of asked.lines) asked.shards shard ask.before)

abbrev pub task_head : Asking → TaskSeen → Head
task_head asked task = record { id = job_of task.ask.number task.shard; exec = task.exec; number = count_at asked task.ask task.shard }

-- The part of this query and shard, where the mark is of a run that was done; or want of memory, as both.
abbrev pub TellsPart : AskSeen → ℕ → Try PartSeen → Mark → Type 0
TellsPart ask shard (try.Value part) (mark.Done count) = (part.number ≡ ask.number) × (part.shard ≡ shard)
TellsPart ask shard (try.Value part) mark.Memory = ⊥
TellsPart ask shard try.Broken (mark.Done count) = ⊥
TellsPart ask shard try.Broken mark.Memory = ⊥
TellsPart ask shard try.Memory (mark.Done count) = ⊥
TellsPart ask shard try.Memory mark.Memory = Unit {0}
TellsPart ask shard (try.Cancelled number) (mark.Done count) = ⊥
TellsPart ask shard (try.Cancelled number) mark.Memory = ⊥
