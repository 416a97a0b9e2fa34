-- What stages and worlds have come to once their threads have ended, and what the close makes of it.
use Rattle.std.specs.Prelude.{◌≡◌, ℕ, ◌+◌, ◌-◌, ◌<◌, ◌||◌, Bool, false, List, [], ◌∷◌, ◌++◌, Option, Some, None, length, map, slice_index_or}
use Rattle.std.specs.List.{list_any}
use Rattle.core_word.specs.Count.{Counts, added}
use Rattle.notify_queue.specs.Ends.{IsDry, QueueId, Sending}
use Rattle.event_base.specs.Closing.{held_by}
use Rattle.event_base.specs.Seen.{BaseSeen}
use Rattle.pool_model.specs.Seen.{EndSeen}
use Rattle.fan_model.specs.Report.{Asking}
use Rattle.fan_model.specs.Tasks.{printer_exec}
use Rattle.fan_parts.specs.declared.jobs.GatherJob.{GatherJob}
use Rattle.fan_parts.specs.declared.jobs.PrintJob.{PrintJob}
use Rattle.fan_parts.specs.declared.run_name.RunName.{Ghosts}
use Rattle.fan_parts.specs.Heads.{gather_head}
use Rattle.run_bases.specs.declared.rows.Column.{Column}
use Rattle.run_bases.specs.Columns.{AreColumns, IsColumn, IsEndOf, exec_at}
use Rattle.run_gathering.specs.declared.looping.GatherStage.{GatherStage}
use Rattle.run_gathering.specs.Gathering.{no_counts}
use Rattle.run_printing.specs.declared.stage.PrintStage.{PrintStage}
use Rattle.run_tasks.specs.declared.world.TaskEnds.{TaskEnds}
use Rattle.run_tasks.specs.Leaving.{MakesMore}
use Rattle.run_tasks.specs.Seen.{TaskSeen, WorldSeen}
use Rattle.run_tasks.specs.Worlds.{AreEndsFor}
use Rattle.run_threads.specs.declared.gatherer.GatherSlot.{GatherSlot}
use Rattle.run_threads.specs.declared.worker.WorkerSlot.{WorkerSlot}
use Rattle.run_threads.specs.Slots.{IsStageOf, IsWorked}
use Rattle.run_setup.specs.declared.closing.Back.{Back}
use Rattle.run_setup.specs.Ids.{RunIds}
use Rattle.run_setup.specs.Opening.{IsNewBack}
use Rattle.run_setup.specs.Rows.{print_head, row_of}
use Rattle.run_setup.specs.Slots.{IsCellPass}

module _ {N : Type 0} where
  -- the slots of workers that have worked
  pub record HaveWorked (slots : List (WorkerSlot TaskSeen (WorldSeen N))) : Type 0 where
    pub each : (k : ℕ) (d : WorkerSlot TaskSeen (WorldSeen N)) → k < length slots → IsWorked (slice_index_or slots k d)

  -- these are what the workers of these slots came to: their ends and what is left of their worlds, by worker
  pub record AreEndsOf (slots : List (WorkerSlot TaskSeen (WorldSeen N))) (ends : List EndSeen) (worlds : List (TaskEnds N)) : Type 0 where
    pub as_many_ends : length ends ≡ length slots
    pub as_many_worlds : length worlds ≡ length slots
    pub each : (k : ℕ) (d : WorkerSlot TaskSeen (WorldSeen N)) (e : EndSeen) (w : TaskEnds N) → k < length slots
        → IsStageOf (slice_index_or slots k d) (record { end = slice_index_or ends k e; ends = slice_index_or worlds k w })

module _ {N : Type 0} where
  -- the end of the poster to the printer's base with this number
  pub record IsPrinterEnd (asked : Asking) (ids : RunIds) (number : ℕ) (e : Sending (PrintJob N)) : Type 0 where
    pub is : IsEndOf (print_head asked) ids.printer number (printer_exec asked.bases) e

  -- what is left of a world: the ends of its posters with this number, and its pass; where it notes no want of memory, its tally counts no core as
  -- handed over
  pub record AreTaskEnds (ids : RunIds) (number : ℕ) (ends : TaskEnds N) : Type 0 where
    pub posters : AreEndsFor (row_of number ids.queues) ends.posters.items
    pub pass : IsCellPass ids ends.pass
    pub handed : ends.refused ≡ false → ends.tally.handed ≡ 0

  -- What is left of the workers' worlds, by worker. None of them began a core, as far as it notes no want of memory.
  pub record AreWorldEnds (ids : RunIds) (worlds : List (TaskEnds N)) : Type 0 where
    pub as_many : length worlds ≡ ids.workers
    pub each : (k : ℕ) (d : TaskEnds N) → k < ids.workers → AreTaskEnds ids (ids.workers - k) (slice_index_or worlds k d)
    pub made : (k : ℕ) (d : TaskEnds N) → k < ids.workers → (slice_index_or worlds k d).refused ≡ false → MakesMore 0 (slice_index_or worlds k d).tally

  -- the stage of a gathering base that has run: it is the base that was opened, and where it notes no want of memory, nothing is left in its queue and
  -- its agenda, for each message that it took one core was counted as handed over, and as many cores were made as were forwarded
  pub record IsGathered (asked : Asking) (ids : RunIds) (k : ℕ) (stage : GatherStage N) : Type 0 where
    pub exec : stage.base.agenda.exec ≡ exec_at 1 k
    pub queue : (q : QueueId) → stage.base.queue.queue ≡ slice_index_or ids.queues k q
    pub senders : stage.base.queue.senders ≡ ids.workers + 1
    pub printer : IsPrinterEnd asked ids (asked.bases - k) stage.printer
    pub dry : stage.refused ≡ false → IsDry stage.base.queue
    pub empty : stage.refused ≡ false → held_by stage.base.agenda ≡ []
    pub handed : stage.refused ≡ false → stage.tally.handed ≡ added 0 (length stage.base.queue.taken)
    pub made : stage.refused ≡ false → MakesMore 0 stage.tally

module _ {N : Type 0} {g : Ghosts N} where
  -- its slot
  pub record IsGatheredSlot (asked : Asking) (ids : RunIds) (k : ℕ) (slot : GatherSlot N g) : Type 0 where
    pub stage : GatherStage N
    pub has : slot.stage ≡ Some stage
    pub is : IsGathered asked ids k stage
    pub no_base : slot.base ≡ None
    pub no_printer : slot.printer ≡ None
    pub no_table : slot.table ≡ None

  -- the slots of all gathering bases that have run, by base
  pub record AreGathered (asked : Asking) (ids : RunIds) (slots : List (GatherSlot N g)) : Type 0 where
    pub as_many : length slots ≡ asked.bases
    pub each : (k : ℕ) (d : GatherSlot N g) → k < asked.bases → IsGatheredSlot asked ids k (slice_index_or slots k d)

module _ {N : Type 0} where
  -- the printer's base is the one that was opened
  pub record IsPrinterBase (asked : Asking) (ids : RunIds) (base : BaseSeen (PrintJob N)) : Type 0 where
    pub exec : base.agenda.exec ≡ printer_exec asked.bases
    pub queue : base.queue.queue ≡ ids.printer
    pub senders : base.queue.senders ≡ asked.bases + 1

module _ {N : Type 0} {g : Ghosts N} where
  -- these are the rooms of the run and all that its threads have left
  pub record IsAllOf (asked : Asking) (ids : RunIds) (back : Back N) (gatherers : List (GatherSlot N g)) (printer : PrintStage (PrintJob N)) (worlds : List (TaskEnds N)) (front : TaskEnds N) (poster : Sending (PrintJob N)) : Type 0 where
    pub bases : length ids.queues ≡ asked.bases
    pub rooms : IsNewBack asked ids back
    pub gathered : AreGathered asked ids gatherers
    pub printed : IsPrinterBase asked ids printer.base
    pub worked : AreWorldEnds ids worlds
    pub front_ended : AreTaskEnds ids 0 front
    pub poster_ended : IsPrinterEnd asked ids 0 poster

-- two tallies added up, number by number
abbrev pub merged : Counts → Counts → Counts
merged a b = record {
  made = added a.made b.made;
  handed = added a.handed b.handed;
  forwarded = added a.forwarded b.forwarded;
  freed = added a.freed b.freed;
  reopened = added a.reopened b.reopened;
}

-- a tally, and these added to it, one after another
abbrev pub merged_with : Counts → List Counts → Counts
merged_with counts [] = counts
merged_with counts (c ∷ cs) = merged_with (merged counts c) cs

module _ {N : Type 0} where
  -- the columns of the gathering bases, with the ends of the numbers from `low` on
  abbrev pub AreColumnsBack : RunIds → ℕ → List (Column (GatherJob N)) → Type 0
  AreColumnsBack ids low columns = AreColumns gather_head ids.queues 1 (ids.workers + 1) 0 low columns

  -- the column of a gathering base, with the ends of all its posters
  pub record IsFullColumn (ids : RunIds) (k : ℕ) (column : Column (GatherJob N)) : Type 0 where
    pub is : (q : QueueId) → IsColumn gather_head (slice_index_or ids.queues k q) (exec_at 1 k) (ids.workers + 1) 0 0 column

  -- the printer's column, with the ends of the numbers from `low` on
  pub record IsPrinterBack (asked : Asking) (ids : RunIds) (low : ℕ) (column : Column (PrintJob N)) : Type 0 where
    pub is : IsColumn (print_head asked) ids.printer (printer_exec asked.bases) (asked.bases + 1) 0 low column

  -- whether a stage notes want of memory
  abbrev pub has_refused : Option (GatherStage N) → Bool
  has_refused (Some stage) = stage.refused
  has_refused None = false

  -- what a stage counted
  abbrev pub tally_of : Option (GatherStage N) → Counts
  tally_of (Some stage) = stage.tally
  tally_of None = no_counts

module _ {N : Type 0} {g : Ghosts N} where
  -- whether some stage or some world notes want of memory
  abbrev pub some_refused : List (GatherSlot N g) → List (TaskEnds N) → TaskEnds N → Bool
  some_refused gatherers worlds front = (list_any (λ (w : TaskEnds N). w.refused) worlds || front.refused) || list_any (λ (s : GatherSlot N g). has_refused s.stage) gatherers

  -- the tallies of all worlds and of all gathering bases
  abbrev pub tallies_of : List (GatherSlot N g) → List (TaskEnds N) → TaskEnds N → List Counts
  tallies_of gatherers worlds front = map (λ (w : TaskEnds N). w.tally) worlds ++ front.tally ∷ map (λ (s : GatherSlot N g). tally_of s.stage) gatherers
