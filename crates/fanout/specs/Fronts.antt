-- The front and the workers of a run, before and after they have run.
use Rattle.std.specs.Prelude.{◌≡◌, ◌+◌, ◌≤◌, List, [], ◌∷◌, false, length, vec_capacity, All}
use Rattle.fan_model.specs.Report.{Asking, IsPoolReport}
use Rattle.fan_model.specs.Tasks.{pool_exec}
use Rattle.pool_model.specs.Seen.{PoolSeen}
use Rattle.prio_pool.specs.Made.{IsNewPool, new_workers}
use Rattle.run_ending.specs.Ends.{IsPoolTold}
use Rattle.run_front.specs.Fronts.{IsFrontOf}
use Rattle.run_notes.specs.Told.{told_of}
use Rattle.run_phases.specs.declared.first.FrontStart.{FrontStart}
use Rattle.run_setup.specs.Closing.{AreTaskEnds, AreWorldEnds, IsPrinterEnd}
use Rattle.run_setup.specs.Ids.{RunIds}
use Rattle.run_setup.specs.Opening.{HasEndRoom}
use Rattle.run_setup.specs.Slots.{AreWorkers, IsNewWorld, new_printer_poster}
use Rattle.run_tasks.specs.declared.world.TaskEnds.{TaskEnds}
use Rattle.run_tasks.specs.Leaving.{MakesMore}
use Rattle.run_tasks.specs.Seen.{TaskSeen, WorldSeen}
use Rattle.run_threads.specs.declared.worker.WorkerSlot.{WorkerSlot}
use Rattle.fanout.specs.declared.front.SideRoom.{SideRoom}
use Rattle.fanout.specs.declared.front.SideEnd.{SideEnd}

module _ {N : Type 0} where
  -- all is new: the pool with its passes, the workers, the front, and room for what they leave
  pub record IsSideStart (asked : Asking) (ids : RunIds) (start : FrontStart N) (pool : PoolSeen) (workers : List (WorkerSlot TaskSeen (WorldSeen N))) (room : SideRoom N) : Type 0 where
    pub front : IsFrontOf asked start.front
    pub world : IsNewWorld ids 0 start.front.world
    pub poster : start.front.printer ≡ new_printer_poster asked ids 0
    pub pool_is : IsNewPool pool_exec 3 1 ids.workers 1 0 pool start.owner start.keep start.adders.items (new_workers pool.id 0 ids.workers) (start.helper ∷ [])
    pub workers_are : AreWorkers ids pool.id workers
    pub ends : HasEndRoom ids.workers room.ends
    pub no_helped : room.helped.items ≡ []
    pub for_helped : 1 ≤ vec_capacity room.helped

  -- no world notes want of memory
  abbrev pub NoneRefused : List (TaskEnds N) → Type 0
  NoneRefused worlds = All (λ (w : TaskEnds N). w.refused ≡ false) worlds

  -- What is left of all worlds, the end of the front's poster; what is told of the pool, whether it was stopped or joined; where the front notes no want of memory, a core that it began for
  -- each task that the pool accepted or that the front ran late; and where nobody does, the report of the pool.
  pub record IsSideEnd (asked : Asking) (ids : RunIds) (end : SideEnd N) : Type 0 where
    pub worlds : AreWorldEnds ids end.worlds.items
    pub tasks : AreTaskEnds ids 0 end.left.ends.tasks
    pub poster : IsPrinterEnd asked ids 0 end.left.ends.printer
    pub stopped : IsPoolTold asked end.left.note
    pub made : end.left.refused ≡ false → end.left.ends.tasks.refused ≡ false → MakesMore (end.left.note.accepted + length end.left.note.direct) end.left.ends.tasks.tally
    pub report : end.left.refused ≡ false → end.left.ends.tasks.refused ≡ false → NoneRefused end.worlds.items → IsPoolReport asked (told_of end.left.note)
