-- How a run ends, and what it tells.
use Rattle.std.specs.Prelude.{◌≡◌, ℕ, ◌+◌, ◌≤◌, ◌⊎◌, List, [], ◌++◌, length, map, take, false, true, Some, None, IfSome}
use Rattle.fan_base.specs.Outside.{FaultsRose, Shown}
use Rattle.query_model.specs.Pieces.{Bytes}
use Rattle.reply_printer.specs.Passing.{Gains, GainsFront}
use Rattle.reply_printer.specs.Printing.{text_of}
use Rattle.fan_model.specs.Answered.{answered_in, is_stopped}
use Rattle.fan_model.specs.Report.{Asking, IsReport}
use Rattle.fan_model.specs.Tasks.{Run, early_runs, late_runs}
use Rattle.fan_model.specs.Totals.{no_cores}
use Rattle.pool_model.specs.Orders.{IsSameInAnyOrder}
use Rattle.pool_model.specs.Records.{AreRunsOf}
use Rattle.pool_model.specs.Tasks.{Add, Task, numbered}
use Rattle.run_notes.specs.declared.notes.PoolNote.{PoolNote}
use Rattle.run_notes.specs.Counting.{totals_of}
use Rattle.run_notes.specs.Told.{TellOf, note_of, run_of_add, told_of}
use Rattle.run_ending.specs.declared.end.FanEnd.{FanEnd}
use Rattle.run_ending.specs.declared.end.FanOutcome.{FanOutcome}
use Rattle.run_ending.specs.declared.end.FanOutcome.TheVariants as outcome

-- what the sink gained of this text: all of it; or a front of it, and where a write failed, its faults rose
abbrev pub WritesText : Bytes → Shown → Shown → FanOutcome → Type 0
WritesText text start now outcome.Done = Gains start now text
WritesText text start now outcome.Memory = GainsFront start now text
WritesText text start now outcome.WriteFault = GainsFront start now text × FaultsRose start.faults now.faults

-- the whole report
pub record IsReported (asked : Asking) (end : FanEnd) : Type 0 where
  pub note : PoolNote
  pub pool : end.pool ≡ Some note
  pub report : IsReport asked (told_of note) (map note_of end.queues) (totals_of end.tally)

-- the report is whole where all replies were written or a write failed; of want of memory nothing is said
abbrev pub ReportsAs : Asking → FanEnd → FanOutcome → Type 0
ReportsAs asked end outcome.Done = IsReported asked end
ReportsAs asked end outcome.Memory = Unit {0}
ReportsAs asked end outcome.WriteFault = IsReported asked end

abbrev pub Reports : Asking → FanEnd → Type 0
Reports asked end = ReportsAs asked end end.outcome

-- no queues and no cores
pub record TellsNoRun (end : FanEnd) : Type 0 where
  pub queues : end.queues ≡ []
  pub cores : totals_of end.tally ≡ no_cores

-- the adds of a run's pool, in order: the first of the early tasks, so many of them
pub record AreAccepted (asked : Asking) (accepted : ℕ) (added : List Add) : Type 0 where
  pub count : accepted ≡ length added
  pub first : map run_of_add added ≡ take accepted (early_runs asked.lines asked.shards asked.stop_at)

-- The tasks of these adds. A ticket names an adder and which of its adds it is, both counted from 0; a run's pool has one adder, so the tickets are
-- (0, 0), (0, 1), and so on.
abbrev pub ticketed : List Add → List Task
ticketed added = numbered 0 0 added

-- Its records of tasks that never were in the pool are of the first of the late ones, in their order, each with its queue, executor and id. Of their
-- marks nothing is said.
pub record TellsLate (asked : Asking) (note : PoolNote) : Type 0 where
  pub runs : List Run
  pub tell : TellOf note.direct runs
  pub left : List Run
  pub whole : runs ++ left ≡ late_runs asked.lines asked.shards asked.bases asked.stop_at

-- What is told of the tasks of a pool that was stopped: it accepted the first of the early ones, as many as are told; each record of what it ran, or
-- of what was handed back and then ran, is of one of these, with its ticket, no two of one. So there are no more records than that. The list of the
-- other tasks is tied to nothing that is told. What never was in the pool is told as the first of the late tasks, and only where it accepted all
-- early ones.
pub record IsStopAccount (asked : Asking) (note : PoolNote) : Type 0 where
  pub added : List Add
  pub accepted : AreAccepted asked note.accepted added
  pub ran : List Task
  pub back : List Task
  pub others : List Task
  pub records : AreRunsOf ran note.ran.records
  pub returned : AreRunsOf back note.returned
  pub all : IsSameInAnyOrder (ran ++ back ++ others) (ticketed added)
  pub few : length note.ran.records + length note.returned ≤ note.accepted
  pub direct : TellsLate asked note
  pub late_behind_all : (note.direct ≡ []) ⊎ (note.accepted ≡ length (early_runs asked.lines asked.shards asked.stop_at))

-- What is told of the tasks of a pool that was joined: it accepted the first of the early ones, as many as are told; each of these has one record of
-- a run, with its ticket, there are no other records, nothing was handed back, and no task is told that never was in the pool.
pub record IsJoinAccount (asked : Asking) (note : PoolNote) : Type 0 where
  pub added : List Add
  pub accepted : AreAccepted asked note.accepted added
  pub ran : List Task
  pub records : AreRunsOf ran note.ran.records
  pub all : IsSameInAnyOrder ran (ticketed added)
  pub none : note.returned ≡ []
  pub direct : note.direct ≡ []

-- The pool was stopped exactly where the run is to be stopped, and either account; whether memory was refused or not.
pub record IsPoolTold (asked : Asking) (note : PoolNote) : Type 0 where
  pub stops : note.ran.stopped ≡ is_stopped asked.stop_at (answered_in asked.lines)
  pub account : note.ran.stopped ≡ true → IsStopAccount asked note
  pub joined : note.ran.stopped ≡ false → IsJoinAccount asked note

-- how a run ends whose sink showed `start` before and `now` afterwards
pub record IsEndOf (asked : Asking) (start now : Shown) (end : FanEnd) : Type 0 where
  pub writes : WritesText (text_of asked.lines) start now end.outcome
  pub reports : Reports asked end
  pub unmade : end.pool ≡ None → TellsNoRun end
  pub untouched : end.pool ≡ None → now ≡ start
  pub stopped : IfSome end.pool (IsPoolTold asked)
