-- The tasks of a run: for each answered query one over each shard.
use Rattle.std.specs.Prelude.{ℕ, ◌+◌, ◌*◌, List, map, Option}
use Rattle.std.specs.List.{flat_map, range_with_len}
use Rattle.fan_base.specs.declared.number.ExecId.{ExecId}
use Rattle.fan_base.specs.declared.number.JobId.{JobId}
use Rattle.fan_base.specs.declared.number.Mark.{Mark}
use Rattle.fan_base.specs.declared.number.Mark.TheVariants as mark
use Rattle.query_model.specs.declared.line.Line.{Line}
use Rattle.query_model.specs.declared.line.Prio.{Prio}
use Rattle.query_model.specs.declared.line.Prio.TheVariants as prio
use Rattle.query_model.specs.Order.{Asked, docs_before}
use Rattle.query_model.specs.Parts.{mark_of, part_of}
use Rattle.fan_model.specs.Answered.{answered_in, early_of, late_of}

-- The run of a job as a report tells it: the job's queue, executor and id, and what the run says of it.
pub record Run : Type 0 where
  pub queue : ℕ
  pub exec : ExecId
  pub id : JobId
  pub mark : Mark

-- the queue of a priority: 0 is taken last
abbrev pub queue_of : Prio → ℕ
queue_of prio.Lo = 0
queue_of prio.Mid = 1
queue_of prio.Hi = 2

-- the id of the task of a query over a shard
abbrev pub job_of : ℕ → ℕ → JobId
job_of number shard = record { 0 = 64 * number + shard }

-- The run of the task of a query over a shard on this executor. Its mark is the number of the shard's documents from before the query's line
-- that hold, or for `top` that have one of the words.
abbrev pub task_run : List Line → ℕ → ExecId → Asked → ℕ → Run
task_run lines shards exec asked shard = record {
  queue = queue_of asked.query.prio;
  exec = exec;
  id = job_of asked.number shard;
  mark = mark.Done (mark_of asked.query.ask (part_of (docs_before lines asked) shards shard));
}

-- the runs of all tasks of these queries, query by query and shard by shard
abbrev pub task_runs : List Line → ℕ → ExecId → List Asked → List Run
task_runs lines shards exec queries = flat_map (λ asked. map (task_run lines shards exec asked) (range_with_len 0 shards)) queries

-- The executors of a run over so many gathering bases: the pool is 0, the bases are 1 and up, then come the printer's base and the front's.
abbrev pub pool_exec : ExecId
pool_exec = record { 0 = 0 }

abbrev pub printer_exec : ℕ → ExecId
printer_exec bases = record { 0 = bases + 1 }

abbrev pub front_exec : ℕ → ExecId
front_exec bases = record { 0 = bases + 2 }

-- the runs of the early tasks, which the pool accepts
unfoldable pub early_runs : List Line → ℕ → Option ℕ → List Run
early_runs lines shards stop_at = task_runs lines shards pool_exec (early_of stop_at (answered_in lines))

-- the runs of the late tasks, which the front runs itself
unfoldable pub late_runs : List Line → ℕ → ℕ → Option ℕ → List Run
late_runs lines shards bases stop_at = task_runs lines shards (front_exec bases) (late_of stop_at (answered_in lines))
