-- The account of a pool that has ended: what was added is what ran.
use Rattle.std.specs.Prelude.{◌≡◌, List, ◌++◌, map, All}
use Rattle.std.specs.List.{flat_map}
use Rattle.fan_base.specs.declared.number.JobId.{JobId}
use Rattle.fan_base.specs.declared.number.Mark.{Mark}
use Rattle.job_trait.specs.declared.job.Head.{Head}
use Rattle.job_trait.specs.Marks.{IsDone}
use Rattle.job_trait.specs.Runs.{Ran, Leads, RunsAll}
use Rattle.pool_model.specs.Accounts.{AllRunOrReturned}
use Rattle.pool_model.specs.Orders.{IsSameInAnyOrder}
use Rattle.pool_model.specs.Passes.{adds_of, adds_total}
use Rattle.pool_model.specs.Records.{Record, AreRunsOf, ran_of}
use Rattle.pool_model.specs.Seen.{EndSeen, PassSeen, Returned, task_of}
use Rattle.pool_model.specs.Tasks.{Task}
use Rattle.fan_model.specs.Report.{IsEachOnce}
use Rattle.fan_model.specs.Tasks.{Run}
use Rattle.run_notes.specs.Told.{run_of, run_of_add}
use Rattle.run_notes.specs.declared.ending.PoolNotes.{PoolNotes}

-- the runs that the adds of these passes ask for
abbrev pub runs_added : List PassSeen → List Run
runs_added passes = flat_map (λ p. map run_of_add (adds_of p)) passes

-- each run of these ends was done
abbrev pub AllDone : List EndSeen → Type 0
AllDone ends = All (λ e. All (λ r. IsDone r.mark) e.records) ends

-- Each task that these passes added ran once, was done, and has its one record, among those of the pool or those that were handed back.
pub record AccountsFor (passes : List PassSeen) (notes : PoolNotes) : Type 0 where
  pub accepted : notes.accepted ≡ adds_total passes
  pub early : IsEachOnce (runs_added passes) (map run_of notes.ran.records ++ map run_of notes.returned)

-- each of these records is of a run of one of these tasks, no two of one
pub record AreRunsOfSome (tasks : List Task) (records : List Record) : Type 0 where
  pub ran : List Task
  pub others : List Task
  pub runs : AreRunsOf ran records
  pub all : IsSameInAnyOrder (ran ++ others) tasks

-- some runs led from one world to the other
abbrev pub SomeLed : {W : Type 0} → (JobId → W → Mark → W → Type 0) → W → W → Type 0
SomeLed runs w v = (list : List Ran) × Leads runs w list v

module _ {J W : Type 0} (head : J → Head) (runs : JobId → W → Mark → W → Type 0) where
  -- all of these tasks ran, each once and in this order, which led from the world w to the world v, whether their records were kept or not
  abbrev pub AllRanBack : List (Returned J) → W → W → Type 0
  AllRanBack tasks w v = RunsAll runs (map (λ b. head b.job) tasks) w v

  -- Each task that these passes added has run: those that have these records, and all others here, one after another, which led from w to v. These
  -- other records are of runs of some of the latter, no two of one.
  pub record HaveAllRun (passes : List PassSeen) (records more : List Record) (w v : W) : Type 0 where
    pub returned : List (Returned J)
    pub all : AllRunOrReturned head passes records returned
    pub back : AllRanBack returned w v
    pub kept : AreRunsOfSome (map (task_of head) returned) more

  -- These tasks ran, in order, which led from the world w to the world v, and these are their records.
  pub record RanBack (tasks : List (Returned J)) (records : List Record) (w v : W) : Type 0 where
    pub ran : AreRunsOf (map (task_of head) tasks) records
    pub led : Leads runs w (ran_of records) v

  -- some of them did, and these are left
  pub record RanBackSoFar (tasks left : List (Returned J)) (records : List Record) (w v : W) : Type 0 where
    pub done : List (Returned J)
    pub list : done ++ left ≡ tasks
    pub back : RanBack done records w v

  -- some of them did, of which these records were kept, and these are left
  pub record HaveRunSoFar (tasks left : List (Returned J)) (records : List Record) (w v : W) : Type 0 where
    pub done : List (Returned J)
    pub list : done ++ left ≡ tasks
    pub back : AllRanBack done w v
    pub kept : AreRunsOfSome (map (task_of head) done) records
