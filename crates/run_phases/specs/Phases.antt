-- The phases of a run's front.
use Rattle.std.specs.Prelude.{◌≡◌, ℕ, ◌+◌, ◌≤◌, Bool, List, [], ◌∷◌, Option, Some, None, length, map, true}
use Rattle.fan_model.specs.Report.{Asking}
use Rattle.fan_model.specs.Tasks.{late_runs}
use Rattle.fan_parts.specs.declared.jobs.PrintJob.{PrintJob}
use Rattle.fan_parts.specs.Seen.{PosterSeen}
use Rattle.notify_queue.specs.Ends.{Sending}
use Rattle.pool_model.specs.Accounts.{AllRun, AllRunOrReturned}
use Rattle.pool_model.specs.Passes.{adds_of, adds_total}
use Rattle.pool_model.specs.Seen.{PassSeen, PoolId, Returned, task_of}
use Rattle.query_tasks.specs.Ends.{seen_of}
use Rattle.run_front.specs.declared.front.FrontEnds.{FrontEnds}
use Rattle.run_front.specs.Fronts.{TellSomeOf}
use Rattle.run_notes.specs.Accounts.{AreRunsOfSome}
use Rattle.run_phases.specs.declared.first.FrontMid.{FrontMid}
use Rattle.run_phases.specs.declared.second.FrontLeft.{FrontLeft}
use Rattle.run_plan.specs.declared.turn.Turn.{Turn}
use Rattle.run_plan.specs.Stopping.{IsStopPlace, IsUnstopped}
use Rattle.run_tasks.specs.Heads.{task_head}
use Rattle.run_tasks.specs.Seen.{TaskSeen}

-- where the pool is stopped: behind so many of the turns, or nowhere
abbrev pub StopsAt : Asking → List Turn → Option ℕ → Type 0
StopsAt asked turns None = IsUnstopped asked.lines asked.stop_at
StopsAt asked turns (Some place) = IsStopPlace asked.lines asked.stop_at place × (place ≤ length turns)

-- behind how many of the turns all early queries were begun
abbrev pub early_place : Option ℕ → List Turn → ℕ
early_place None turns = length turns
early_place (Some place) turns = place

-- the one adder's pass of this pool, which has added nothing
pub record IsOneAdder (pool : PoolId) (passes : List PassSeen) : Type 0 where
  pub pass : PassSeen
  pub is : passes ≡ pass ∷ []
  pub of_pool : pass.pool ≡ pool
  pub number : pass.number ≡ 0
  pub unused : adds_of pass ≡ []

-- one pass, of an adder whose number is 0
pub record AreOfOneAdder (passes : List PassSeen) : Type 0 where
  pub pass : PassSeen
  pub is : passes ≡ pass ∷ []
  pub number : pass.number ≡ 0

module _ {N : Type 0} where
  -- the end of this poster
  pub record IsDoneBy (poster : PosterSeen (PrintJob N)) (end : Sending (PrintJob N)) : Type 0 where
    pub queue : end.queue ≡ poster.sender.queue
    pub number : end.number ≡ poster.sender.number

  -- No more was posted to the printer's base, and memory is said to be refused exactly where it was before.
  pub record IsLeftAsItWas (mid : FrontMid N) (refused : Bool) (ends : FrontEnds N) : Type 0 where
    pub refused_is : refused ≡ mid.refused
    pub printer : ends.printer ≡ mid.front.printer.sender

  -- What is told of a pool that was stopped, whether memory was refused or not: as many tasks as accepted as were added; each record of what it ran
  -- is of one of these, no two of one, and the others were handed back; each record of `returned` is of one of those, no two of one. That those ran
  -- then isn't said here: a task may leave its world as it was. The records of late tasks are, but for their marks, those of the first of them, in
  -- their order; there are none where the first phase says that memory was refused.
  pub record IsStopAccount (asked : Asking) (mid : FrontMid N) (left : FrontLeft N) : Type 0 where
    pub accepted : left.note.accepted ≡ adds_total (seen_of mid.ending).passes
    pub few : length left.note.ran.records + length left.note.returned ≤ left.note.accepted
    pub back : List (Returned TaskSeen)
    pub all : AllRunOrReturned (task_head asked) (seen_of mid.ending).passes left.note.ran.records back
    pub kept : AreRunsOfSome (map (task_of (task_head asked)) back) left.note.returned
    pub direct : TellSomeOf [] (late_runs asked.lines asked.shards asked.bases asked.stop_at) left.note.direct
    pub none_if_refused : mid.refused ≡ true → left.note.direct ≡ []

  -- What is told of a pool that was joined, whether memory was refused or not: as many tasks as accepted as were added; each of these has one record,
  -- nothing was handed back, and no task is told that never was in the pool.
  pub record IsJoinAccount (mid : FrontMid N) (left : FrontLeft N) : Type 0 where
    pub accepted : left.note.accepted ≡ adds_total (seen_of mid.ending).passes
    pub all : AllRun (seen_of mid.ending).passes left.note.ran.records
    pub none : left.note.returned ≡ []
    pub direct : left.note.direct ≡ []
