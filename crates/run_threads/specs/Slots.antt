-- Slots of stages, before and after their runs.
use Rattle.std.specs.Prelude.{◌≡◌, ℕ, List, [], Option, Some, None, false, length, map}
use Rattle.std.specs.List.{All}
use Rattle.fan_base.specs.Outside.{shown}
use Rattle.query_model.specs.declared.line.Line.{Line}
use Rattle.fan_base.specs.declared.number.JobId.{JobId}
use Rattle.fan_base.specs.declared.number.Mark.{Mark}
use Rattle.job_trait.specs.Marks.{IsDone}
use Rattle.job_trait.specs.Runs.{Leads}
use Rattle.notify_queue.specs.Ends.{IsDry}
use Rattle.event_base.specs.Closing.{held_by}
use Rattle.event_base.specs.Looping.{HoldsNoCallback}
use Rattle.event_base.specs.Seen.{BaseSeen}
use Rattle.pool_model.specs.Records.{ran_of}
use Rattle.pool_model.specs.Seen.{EndSeen, PoolId, WorkerSeen}
use Rattle.fan_model.specs.Report.{Asking}
use Rattle.fan_model.specs.Tasks.{printer_exec}
use Rattle.fan_parts.specs.declared.jobs.GatherJob.{GatherJob}
use Rattle.fan_parts.specs.declared.jobs.PrintJob.{PrintJob}
use Rattle.fan_parts.specs.declared.run_name.RunName.{Ghosts}
use Rattle.fan_parts.specs.Seen.{PosterSeen}
use Rattle.run_gathering.specs.declared.looping.GatherStage.{GatherStage}
use Rattle.run_gathering.specs.Awaited.{TableSeen}
use Rattle.run_gathering.specs.Dealt.{AwaitsAll}
use Rattle.run_gathering.specs.Gathering.{HoldsScorings}
use Rattle.run_gathering.specs.Stages.{CameTo, IsSameBase}
use Rattle.run_printing.specs.declared.stage.PrintStage.{PrintStage}
use Rattle.run_printing.specs.Ends.{HasPrinted, IsBaseOf, IsNewBase}
use Rattle.run_tasks.specs.declared.stage.WorkerStage.{WorkerStage}
use Rattle.run_tasks.specs.Leaving.{CountsTasks}
use Rattle.run_tasks.specs.Seen.{TaskSeen, WorldSeen}
use Rattle.run_tasks.specs.Worlds.{AreEndsFor, StaysPass, told_of}
use Rattle.run_threads.specs.declared.gatherer.GatherSlot.{GatherSlot}
use Rattle.run_threads.specs.declared.printer.PrinterSlot.{PrinterSlot}
use Rattle.run_threads.specs.declared.worker.WorkerSlot.{WorkerSlot}

module _ {N K : Type 0} where
  -- it has a new base, and has not run
  pub record IsReadyToPrint (slot : PrinterSlot N K) : Type 0 where
    pub base : BaseSeen (PrintJob N)
    pub has : slot.base.now ≡ Some base
    pub is_new : IsNewBase base
    pub none : slot.stage.now ≡ None

  -- its base was spent on a stage, which printed on its sink
  pub record HasPrintedIn (lines : List Line) (holds : K → Option (List ℕ)) (faults : K → ℕ) (old new : PrinterSlot N K) : Type 0 where
    pub base : BaseSeen (PrintJob N)
    pub had : old.base.now ≡ Some base
    pub stage : PrintStage (PrintJob N)
    pub has : new.stage.now ≡ Some stage
    pub spent : new.base.now ≡ None
    pub printed : HasPrinted lines (shown (holds old.sink.now) (faults old.sink.now)) (shown (holds new.sink.now) (faults new.sink.now)) stage
    pub same_base : IsBaseOf base stage.base
    pub base_loan : new.base.ghost_name ≡ old.base.ghost_name
    pub sink_loan : new.sink.ghost_name ≡ old.sink.ghost_name
    pub stage_loan : new.stage.ghost_name ≡ old.stage.ghost_name

module _ {N : Type 0} {g : Ghosts N} where
  -- it has a base that holds nothing but scorings, a poster to the printer's base, and the base's table, which awaits all parts of its queries, and has not run
  pub record IsReadyToGather (asked : Asking) (slot : GatherSlot N g) : Type 0 where
    pub base : BaseSeen (GatherJob N)
    pub has_base : slot.base ≡ Some base
    pub holds : HoldsScorings base.agenda
    pub printer : PosterSeen (PrintJob N)
    pub has_printer : slot.printer ≡ Some printer
    pub exec : printer.exec ≡ printer_exec asked.bases
    pub table : TableSeen
    pub has_table : slot.table ≡ Some table
    pub awaits : AwaitsAll asked base.agenda.exec table
    pub none : slot.stage ≡ None

  -- its base and its poster were spent on a stage, which says what they came to
  pub record HasGatheredIn (old new : GatherSlot N g) : Type 0 where
    pub base : BaseSeen (GatherJob N)
    pub had_base : old.base ≡ Some base
    pub printer : PosterSeen (PrintJob N)
    pub had_printer : old.printer ≡ Some printer
    pub stage : GatherStage N
    pub has : new.stage ≡ Some stage
    pub spent_base : new.base ≡ None
    pub spent_printer : new.printer ≡ None
    pub spent_table : new.table ≡ None
    pub same_base : IsSameBase base stage.base
    pub did : CameTo base stage.base printer.sender stage.printer stage.tally stage.refused
    pub closed : stage.refused ≡ false → IsDry stage.base.queue × HoldsNoCallback stage.base.agenda
    pub empty : stage.refused ≡ false → held_by stage.base.agenda ≡ []

module _ {J W : Type 0} where
  -- it has a pass of this pool
  pub record IsReadyToWork (pool : PoolId) (slot : WorkerSlot J W) : Type 0 where
    pub pass : WorkerSeen
    pub has : slot.pass ≡ Some pass
    pub of_pool : pass.pool ≡ pool

  -- its pass was spent on an end, and the runs of the end's records led from the world before to the world after
  pub record HasWorked (runs : JobId → W → Mark → W → Type 0) (old new : WorkerSlot J W) : Type 0 where
    pub pass : WorkerSeen
    pub had : old.pass ≡ Some pass
    pub end : EndSeen
    pub has : new.end ≡ Some end
    pub spent : new.pass ≡ None
    pub end_pool : end.pool ≡ pass.pool
    pub end_number : end.number ≡ pass.number
    pub led : Leads runs old.world (ran_of end.records) new.world

  -- it has an end, and no pass
  pub record IsWorked (slot : WorkerSlot J W) : Type 0 where
    pub end : EndSeen
    pub has : slot.end ≡ Some end
    pub spent : slot.pass ≡ None

module _ {N : Type 0} where
  -- What a worker came to: the end is that of its pass; where no want of memory is noted, none was noted before, each task ran, and the tally counts
  -- the cores that they freed; its posters ended, and the pass of the cells is of the same cells.
  pub record IsStageOf (old : WorkerSlot TaskSeen (WorldSeen N)) (stage : WorkerStage N) : Type 0 where
    pub pass : WorkerSeen
    pub had : old.pass ≡ Some pass
    pub end_pool : stage.end.pool ≡ pass.pool
    pub end_number : stage.end.number ≡ pass.number
    pub marks : stage.ends.refused ≡ false → All (λ r. IsDone r.mark) stage.end.records
    pub refused : stage.ends.refused ≡ false → old.world.refused ≡ false
    pub tally : stage.ends.refused ≡ false → CountsTasks (length stage.end.records) old.world.tally stage.ends.tally
    pub posters : AreEndsFor (map told_of old.world.posters) stage.ends.posters.items
    pub cells : StaysPass old.world.pass stage.ends.pass
