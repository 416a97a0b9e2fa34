-- The slots of the stages as they are opened.
use Rattle.std.specs.Prelude.{◌≡◌, ℕ, ◌+◌, ◌-◌, ◌<◌, List, Some, None, false, map, length, slice_index_or}
use Rattle.core_cells.specs.Seen.{SeenPass}
use Rattle.notify_queue.specs.Ends.{QueueId, new_sender}
use Rattle.event_base.specs.Seen.{new_base}
use Rattle.pool_model.specs.Seen.{PoolId}
use Rattle.fan_model.specs.Report.{Asking}
use Rattle.fan_model.specs.Tasks.{printer_exec}
use Rattle.fan_parts.specs.declared.jobs.PrintJob.{PrintJob}
use Rattle.fan_parts.specs.declared.run_name.RunName.{Ghosts}
use Rattle.fan_parts.specs.Seen.{PosterSeen}
use Rattle.run_bases.specs.Columns.{exec_at}
use Rattle.run_gathering.specs.Awaited.{TableSeen}
use Rattle.run_gathering.specs.Gathering.{no_counts}
use Rattle.run_tasks.specs.Seen.{TaskSeen, WorldSeen}
use Rattle.run_tasks.specs.Worlds.{told_of}
use Rattle.run_threads.specs.declared.gatherer.GatherSlot.{GatherSlot}
use Rattle.run_threads.specs.declared.worker.WorkerSlot.{WorkerSlot}
use Rattle.run_setup.specs.Ids.{RunIds}
use Rattle.run_setup.specs.Rows.{row_of}

-- a pass of the run's cells, which have one for each worker and one for the front
pub record IsCellPass (ids : RunIds) (pass : SeenPass) : Type 0 where
  pub cells : pass.cells ≡ ids.cells
  pub passes : pass.passes ≡ ids.workers + 1

-- a poster to the printer's base with this number, which has put nothing
abbrev pub new_printer_poster : {N : Type 0} → Asking → RunIds → ℕ → PosterSeen (PrintJob N)
new_printer_poster asked ids number = record { sender = new_sender ids.printer number; exec = printer_exec asked.bases }

module _ {N : Type 0} where
  -- a world that has done nothing, with the poster of this number to each gathering base
  pub record IsNewWorld (ids : RunIds) (number : ℕ) (world : WorldSeen N) : Type 0 where
    pub posters : map told_of world.posters ≡ row_of number ids.queues
    pub cells : world.cells ≡ ids.cells
    pub pass : IsCellPass ids world.pass
    pub tally : world.tally ≡ no_counts
    pub refused : world.refused ≡ false

  -- a worker's slot: the pass of the pool with its number, and a new world
  pub record IsWorker (ids : RunIds) (pool : PoolId) (k : ℕ) (slot : WorkerSlot TaskSeen (WorldSeen N)) : Type 0 where
    pub pass : slot.pass ≡ Some (record { pool = pool; number = k })
    pub is_new : IsNewWorld ids (ids.workers - k) slot.world

  -- the slots of all workers, by number
  pub record AreWorkers (ids : RunIds) (pool : PoolId) (slots : List (WorkerSlot TaskSeen (WorldSeen N))) : Type 0 where
    pub as_many : length slots ≡ ids.workers
    pub each : (k : ℕ) (d : WorkerSlot TaskSeen (WorldSeen N)) → k < ids.workers → IsWorker ids pool k (slice_index_or slots k d)

module _ {N : Type 0} {g : Ghosts N} where
  -- a gathering base's slot: a new base with its executor and a poster for each worker and the front, a poster to the printer's base, and a table of what is awaited
  pub record IsGatherSlot (asked : Asking) (ids : RunIds) (k : ℕ) (slot : GatherSlot N g) : Type 0 where
    pub base : (q : QueueId) → slot.base ≡ Some (new_base (exec_at 1 k) 0 (slice_index_or ids.queues k q) (ids.workers + 1))
    pub printer : slot.printer ≡ Some (new_printer_poster asked ids (asked.bases - k))
    pub table : TableSeen
    pub has_table : slot.table ≡ Some table
    pub none : slot.stage ≡ None

  -- in these slots stand these tables: in the first one the first, and so on
  pub record HaveTables (slots : List (GatherSlot N g)) (tables : List TableSeen) : Type 0 where
    pub are : map (λ (slot : GatherSlot N g). slot.table) slots ≡ map (λ (table : TableSeen). Some table) tables

  -- the slots of all gathering bases, by base
  pub record AreGatherSlots (asked : Asking) (ids : RunIds) (slots : List (GatherSlot N g)) : Type 0 where
    pub as_many : length slots ≡ asked.bases
    pub each : (k : ℕ) (d : GatherSlot N g) → k < asked.bases → IsGatherSlot asked ids k (slice_index_or slots k d)
