-- What is opened for a run.
use Rattle.std.specs.Prelude.{◌≡◌, ℕ, ◌+◌, ◌<◌, ◌≤◌, List, [], ◌∷◌, length, slice_index_or, vec_capacity, All}
use Rattle.notify_queue.specs.Ends.{QueueId}
use Rattle.fan_parts.specs.declared.jobs.GatherJob.{GatherJob}
use Rattle.fan_parts.specs.declared.jobs.PrintJob.{PrintJob}
use Rattle.fan_parts.specs.declared.run_name.RunName.{Ghosts}
use Rattle.fan_model.specs.Report.{Asking}
use Rattle.fan_model.specs.Tasks.{pool_exec, printer_exec}
use Rattle.fan_parts.specs.Heads.{gather_head}
use Rattle.event_base.specs.Seen.{BaseSeen, new_base}
use Rattle.prio_pool.specs.Made.{IsNewPool, new_workers}
use Rattle.run_bases.specs.declared.rows.Column.{Column}
use Rattle.run_bases.specs.Columns.{AreColumns, IsColumn, exec_at}
use Rattle.run_bases.specs.Making.{AreOpen, IsNewBase}
use Rattle.run_setup.specs.declared.closing.Back.{Back}
use Rattle.run_setup.specs.declared.dealing.Dealing.{Dealing}
use Rattle.run_setup.specs.declared.workers.WorkerEnds.{WorkerEnds}
use Rattle.run_setup.specs.declared.opened.Opened.{Opened}
use Rattle.run_setup.specs.declared.opening.Setup.{Setup}
use Rattle.run_setup.specs.Ids.{RunIds}
use Rattle.run_setup.specs.Rooms.{HasWorldRoom}
use Rattle.run_setup.specs.Rows.{print_head}
use Rattle.run_setup.specs.Slots.{AreGatherSlots, AreWorkers, IsCellPass, IsNewWorld, new_printer_poster}

module _ {N : Type 0} where
  -- so many gathering bases and the printer's base, with unused posters for so many workers, for the front and for the bases, and a new pool
  pub record HasOpened (asked : Asking) (workers bases : ℕ) (opened : Opened N) : Type 0 where
    pub gathering : AreOpen gather_head 1 bases (workers + 1) opened.gathering
    pub printer : IsNewBase (printer_exec bases) (bases + 1) opened.printer
    pub column : IsColumn (print_head asked) opened.printer.queue.queue (printer_exec bases) (bases + 1) (bases + 1) (bases + 1) opened.column
    pub pool : IsNewPool pool_exec 3 1 workers 1 0 opened.parts.pool opened.parts.owner opened.parts.keep opened.parts.adders.items opened.parts.workers.items opened.parts.helpers.items

module _ {N : Type 0} {g : Ghosts N} where
  -- So many worlds are still to be dealt: there are the posters with the numbers below that, as many passes of the cells and as many rooms. There is room
  -- for all passes.
  pub record IsDealing (asked : Asking) (ids : RunIds) (left : ℕ) (dealing : Dealing N g) : Type 0 where
    pub bases : length ids.queues ≡ asked.bases
    pub cells : dealing.cells.now ≡ ids.cells
    pub columns : AreColumns gather_head ids.queues 1 (ids.workers + 1) left (ids.workers + 1) dealing.columns.items
    pub passes : length dealing.passes.items ≡ left
    pub each_pass : All (IsCellPass ids) dealing.passes.items
    pub for_passes : ids.workers + 1 ≤ vec_capacity dealing.passes
    pub rooms : length dealing.rooms.items ≡ left
    pub each_room : All (HasWorldRoom asked.bases) dealing.rooms.items

module _ {N : Type 0} where
  -- the new gathering bases, by base: each with its executor, and a poster for each worker and the front
  pub record AreNewBases (asked : Asking) (ids : RunIds) (bases : List (BaseSeen (GatherJob N))) : Type 0 where
    pub as_many : length bases ≡ asked.bases
    pub each : (k : ℕ) (d : BaseSeen (GatherJob N)) (q : QueueId) → k < asked.bases
        → slice_index_or bases k d ≡ new_base (exec_at 1 k) 0 (slice_index_or ids.queues k q) (ids.workers + 1)

  -- the printer's column, with so many posters left, and no end has come back
  pub record IsPrinterColumn (asked : Asking) (ids : RunIds) (left : ℕ) (column : Column (PrintJob N)) : Type 0 where
    pub is : IsColumn (print_head asked) ids.printer (printer_exec asked.bases) (asked.bases + 1) left (asked.bases + 1) column

  -- no end has come back, and there is room for all
  pub record IsNewBack (asked : Asking) (ids : RunIds) (back : Back N) : Type 0 where
    pub columns : AreColumns gather_head ids.queues 1 (ids.workers + 1) 0 (ids.workers + 1) back.columns.items
    pub printer : IsColumn (print_head asked) ids.printer (printer_exec asked.bases) (asked.bases + 1) 0 (asked.bases + 1) back.printer
    pub no_notes : back.notes.items ≡ []
    pub no_passes : back.passes.items ≡ []
    pub for_notes : asked.bases ≤ vec_capacity back.notes
    pub for_passes : ids.workers + 1 ≤ vec_capacity back.passes

  -- no end of a worker or helper stands there, and there is room for all
  pub record HasEndRoom (workers : ℕ) (ends : WorkerEnds N) : Type 0 where
    pub no_ends : ends.ends.items ≡ []
    pub no_worlds : ends.worlds.items ≡ []
    pub for_ends : workers ≤ vec_capacity ends.ends
    pub for_worlds : workers ≤ vec_capacity ends.worlds

module _ {N : Type 0} {g : Ghosts N} where
  -- All parts of a run, new: the workers, the bases, the posters, the pool with its passes, and the rooms.
  pub record IsSetup (asked : Asking) (ids : RunIds) (setup : Setup N g) : Type 0 where
    pub bases : length ids.queues ≡ asked.bases
    pub gatherers : AreGatherSlots asked ids setup.gatherers.items
    pub printer : setup.printer ≡ new_base (printer_exec asked.bases) 0 ids.printer (asked.bases + 1)
    pub workers : AreWorkers ids setup.pool.id setup.workers.items
    pub world : IsNewWorld ids 0 setup.world
    pub poster : setup.poster ≡ new_printer_poster asked ids 0
    pub pool : IsNewPool pool_exec 3 1 ids.workers 1 0 setup.pool setup.owner setup.keep setup.adders.items (new_workers setup.pool.id 0 ids.workers) (setup.helper ∷ [])
    pub ends : HasEndRoom ids.workers setup.ends
    pub no_helped : setup.helped.items ≡ []
    pub for_helped : 1 ≤ vec_capacity setup.helped
    pub back : IsNewBack asked ids setup.back
