-- A run whose threads have ended, before it is closed.
use Rattle.std.specs.Prelude.{List}
use Rattle.core_word.specs.Count.{Counts}
use Rattle.event_base.specs.Seen.{NoteSeen}
use Rattle.fan_model.specs.Report.{Asking}
use Rattle.fan_model.specs.Totals.{core_totals}
use Rattle.fan_parts.specs.declared.jobs.PrintJob.{PrintJob}
use Rattle.fan_parts.specs.declared.run_name.RunName.{Ghosts}
use Rattle.run_notes.specs.declared.counting.Counted.{Counted}
use Rattle.run_notes.specs.Counting.{AreCoresBy, ArePutBy}
use Rattle.run_printing.specs.declared.stage.PrintStage.{PrintStage}
use Rattle.run_setup.specs.Closing.{IsAllOf}
use Rattle.run_setup.specs.Ids.{RunIds}
use Rattle.run_setup.specs.declared.closing.Back.{Back}
use Rattle.run_threads.specs.declared.gatherer.GatherSlot.{GatherSlot}
use Rattle.fanout.specs.declared.front.SideEnd.{SideEnd}
use Rattle.fanout.specs.Fronts.{IsSideEnd}

-- What is compared is what so many answered queries come to: the numbers of the cores but for how many were made and handed over, and how many messages each
-- gathering base's queue had.
pub record DoAgree (asked : Asking) (counted : Counted) (tally : Counts) (notes : List NoteSeen) : Type 0 where
  pub cores : AreCoresBy tally (core_totals asked.lines asked.shards)
  pub puts : ArePutBy asked.shards counted.by_base.items notes

module _ {N : Type 0} {g : Ghosts N} where
  -- the rooms of the run, and all that its threads have left
  pub record IsReadyToClose (asked : Asking) (ids : RunIds) (back : Back N) (gatherers : List (GatherSlot N g)) (printed : PrintStage (PrintJob N)) (end : SideEnd N) : Type 0 where
    pub side : IsSideEnd asked ids end
    pub all : IsAllOf asked ids back gatherers printed end.worlds.items end.left.ends.tasks end.left.ends.printer
