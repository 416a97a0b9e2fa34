-- What starting the tasks of a query does.
use Rattle.std.specs.Prelude.{◌≡◌, ℕ, ◌<◌, List, ◌++◌, false, map}
use Rattle.std.specs.List.{All, range_with_len}
use Rattle.fan_base.specs.declared.number.ExecId.{ExecId}
use Rattle.fan_base.specs.declared.number.Mark.TheVariants as mark
use Rattle.job_trait.specs.declared.job.Head.{Head}
use Rattle.job_trait.specs.Marks.{IsDone}
use Rattle.pool_model.specs.Passes.{adds_of}
use Rattle.pool_model.specs.Records.{Record}
use Rattle.pool_model.specs.Seen.{EndSeen, PassSeen}
use Rattle.pool_model.specs.Tasks.{Add}
use Rattle.prio_pool.specs.Adders.{add_on}
use Rattle.prio_pool.specs.Running.{DirectSeen}
use Rattle.fan_model.specs.Report.{Asking}
use Rattle.fan_model.specs.Tasks.{Run, job_of, pool_exec}
use Rattle.fan_parts.specs.Seen.{AskSeen}
use Rattle.run_notes.specs.Told.{TellOf, run_of_direct}
use Rattle.run_tasks.specs.Heads.{count_at}
use Rattle.run_tasks.specs.Seen.{WorldSeen}
use Rattle.run_tasks.specs.Worlds.{Follows}

-- the head of the task of a query over a shard, on the pool
abbrev pub head_on_pool : Asking → AskSeen → ℕ → Head
head_on_pool asked ask shard = record { id = job_of ask.number shard; exec = pool_exec; number = count_at asked ask shard }

-- the adds of the tasks of a query over so many shards, to this queue
abbrev pub adds_for : Asking → AskSeen → ℕ → ℕ → List Add
adds_for asked ask queue shards = map (λ shard. add_on queue (head_on_pool asked ask shard)) (range_with_len 0 shards)

-- the run of the task of a query over a shard, from this queue and on this executor
abbrev pub run_at : Asking → AskSeen → ℕ → ExecId → ℕ → Run
run_at asked ask queue exec shard = record { queue = queue; exec = exec; id = job_of ask.number shard; mark = mark.Done (count_at asked ask shard) }

-- the runs of the tasks of a query over so many shards
abbrev pub runs_for : Asking → AskSeen → ℕ → ExecId → ℕ → List Run
runs_for asked ask queue exec shards = map (run_at asked ask queue exec) (range_with_len 0 shards)

-- the same adder, which has added these besides
pub record HasAdded (old : PassSeen) (more : List Add) (new : PassSeen) : Type 0 where
  pub pool : new.pool ≡ old.pool
  pub number : new.number ≡ old.number
  pub adds : adds_of new ≡ adds_of old ++ more

-- it has added those of the first shards, and not of all
pub record HasAddedSome (old : PassSeen) (adds : ℕ → List Add) (shards : ℕ) (new : PassSeen) : Type 0 where
  pub count : ℕ
  pub within : count < shards
  pub added : HasAdded old (adds count) new

-- behind these records stand those of the tasks of the first shards, and not of all
pub record HasRunSome (old : List DirectSeen) (runs : ℕ → List Run) (shards : ℕ) (new : List DirectSeen) : Type 0 where
  pub count : ℕ
  pub within : count < shards
  pub ran : map run_of_direct new ≡ map run_of_direct old ++ runs count

-- the same, but for marks: behind the runs that the old records tell of, the new ones tell of those of the first shards, and not of all
pub record HasToldSome (old : List DirectSeen) (runs : ℕ → List Run) (shards : ℕ) (new : List DirectSeen) : Type 0 where
  pub count : ℕ
  pub within : count < shards
  pub told : (before : List Run) → TellOf old before → TellOf new (before ++ runs count)

module _ {N : Type 0} where
  -- A world after another, and the helper's pass beside it: it helped with some tasks, whose records stand behind the others, and which were
  -- done where the world notes no refusal.
  pub record HasHelped (w : WorldSeen N) (old : EndSeen) (v : WorldSeen N) (new : EndSeen) : Type 0 where
    pub follows : Follows w v
    pub pool : new.pool ≡ old.pool
    pub number : new.number ≡ old.number
    pub more : List Record
    pub records : new.records ≡ old.records ++ more
    pub done : v.refused ≡ false → All (λ (r : Record). IsDone r.mark) more
