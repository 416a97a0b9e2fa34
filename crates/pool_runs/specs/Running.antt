-- A run of a task, and of those that were handed back.
use Rattle.std.specs.Prelude.{◌≡◌, ℕ, List, [], ◌∷◌, ◌++◌, map, Option, Some, None}
use Rattle.fan_base.specs.declared.number.JobId.{JobId}
use Rattle.fan_base.specs.declared.number.Mark.{Mark}
use Rattle.job_trait.specs.declared.job.Head.{Head}
use Rattle.job_trait.specs.Runs.{Leads}
use Rattle.pool_model.specs.Records.{Record, IsRunOf, AreRunsOf, ran_of}
use Rattle.pool_model.specs.Seen.{Returned, task_of}
use Rattle.pool_model.specs.Tasks.{Task}
use Rattle.pool_runs.specs.declared.placed.Placed.{Placed}
use Rattle.task_queue.specs.declared.rule.Queued.{Queued}

-- the task that waited in this queue
abbrev pub task_in : {J : Type 0} → (J → Head) → ℕ → Queued (Placed J) → Task
task_in head queue task = record { ticket = task.ticket; queue = queue; head = head task.job.job }

-- the task ran once, which led from the world w to the world v, and this is its one record
pub record RanOnce {W : Type 0} (runs : JobId → W → Mark → W → Type 0) (task : Task) (w v : W) (made : List Record) : Type 0 where
  pub entry : Record
  pub only : made ≡ entry ∷ []
  pub is : IsRunOf task entry
  pub ran : runs entry.job w entry.mark v

-- the first task that was handed back ran once, and this is its record; or there was none
abbrev pub RunsBack : {J W : Type 0} → (J → Head) → (JobId → W → Mark → W → Type 0) → Option Record → List (Returned J) → W → List (Returned J) → W → Type 0
RunsBack head runs None old w new v = (old ≡ []) × (new ≡ []) × (v ≡ w)
RunsBack {J} head runs (Some r) old w new v = (b : Returned J) × (old ≡ b ∷ new) × IsRunOf (task_of head b) r × runs r.job w r.mark v

module _ {J W : Type 0} (head : J → Head) (runs : JobId → W → Mark → W → Type 0) where
  -- these tasks ran, in order, which led from the world w to the world v, and these are their records
  pub record Drained (tasks : List (Returned J)) (records : List Record) (w v : W) : Type 0 where
    pub ran : AreRunsOf (map (task_of head) tasks) records
    pub led : Leads runs w (ran_of records) v

  -- some of them did, and these are left
  pub record DrainedSoFar (tasks left : List (Returned J)) (records : List Record) (w v : W) : Type 0 where
    pub done : List (Returned J)
    pub list : done ++ left ≡ tasks
    pub drained : Drained done records w v
