-- The heads of what is posted to the bases of a run.
use Rattle.std.specs.Prelude.{ℕ, ◌+◌}
use Rattle.job_trait.specs.declared.job.Head.{Head}
use Rattle.fan_model.specs.Tasks.{job_of}
use Rattle.fan_parts.specs.declared.jobs.GatherJob.{GatherJob}
use Rattle.fan_parts.specs.declared.jobs.GatherJob.TheVariants as gather
use Rattle.fan_parts.specs.declared.jobs.PrintJob.{PrintJob}
use Rattle.fan_parts.specs.declared.jobs.PrintJob.TheVariants as print

-- the first id of scorings: all ids of tasks are below it
abbrev pub first_scoring : ℕ
first_scoring = 4294967296

module _ {N : Type 0} where
  -- a task has the id of its query and shard; a scoring has its place behind all ids of tasks
  abbrev pub gather_head : GatherJob N → Head
  gather_head (gather.Task fire) = record { id = job_of fire.callback.number fire.callback.shard; exec = fire.callback.exec; number = 0 }
  gather_head (gather.Score call) = record { id = record { 0 = first_scoring + call.place }; exec = call.exec; number = 0 }

  -- the place of the reply, which is the number of its core
  abbrev pub print_id : PrintJob N → ℕ
  print_id (print.Replied fire) = fire.no
  print_id (print.Cancelled reply) = reply.place
