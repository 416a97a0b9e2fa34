-- The front and the workers, as they are made of what was opened.
use Rattle.std.proofs.Common.{◌≡◌, List, [], ◌∷◌, ap}
use Rattle.std.specs.Prelude.{◌≤◌, vec_capacity}
use Rattle.query_model.specs.Alike.{AreAlike}
use Rattle.fan_model.specs.Report.{Asking}
use Rattle.fan_model.specs.Tasks.{pool_exec}
use Rattle.fan_parts.specs.declared.jobs.PrintJob.{PrintJob}
use Rattle.fan_parts.specs.Facts.{IsCountable}
use Rattle.fan_parts.specs.Seen.{PosterSeen}
use Rattle.pool_model.specs.Seen.{PoolSeen}
use Rattle.prio_pool.specs.Made.{IsNewPool, new_workers}
use Rattle.run_phases.specs.declared.first.FrontStart.{FrontStart}
use Rattle.run_setup.specs.Ids.{RunIds}
use Rattle.run_setup.specs.Opening.{HasEndRoom}
use Rattle.run_setup.specs.Slots.{AreWorkers, IsNewWorld, new_printer_poster}
use Rattle.run_tasks.specs.Seen.{TaskSeen, WorldSeen}
use Rattle.run_threads.specs.declared.worker.WorkerSlot.{WorkerSlot}
use Rattle.fanout.specs.declared.front.SideRoom.{SideRoom}
use Rattle.fanout.specs.Fronts.{IsSideStart}

module _ {N : Type 0} where
  pub side_start : (asked : Asking) (ids : RunIds) (start : FrontStart N) (pool : PoolSeen) (workers : List (WorkerSlot TaskSeen (WorldSeen N))) (room : SideRoom N)
      → AreAlike start.front.lines.now asked.lines → start.front.shards ≡ asked.shards → start.front.bases ≡ asked.bases → IsCountable asked
      → IsNewWorld ids 0 start.front.world → start.front.printer ≡ new_printer_poster asked ids 0
      → IsNewPool pool_exec 3 1 ids.workers 1 0 pool start.owner start.keep start.adders.items (new_workers pool.id 0 ids.workers) (start.helper ∷ [])
      → AreWorkers ids pool.id workers → HasEndRoom ids.workers room.ends → room.helped.items ≡ [] → 1 ≤ vec_capacity room.helped → IsSideStart asked ids start pool workers room
  side_start asked ids start pool workers room lines shards bases countable world poster pool_is workers_are ends none for_helped = record {
    front = record { lines = lines; shards = shards; bases = bases; countable = countable; printer = ap (λ (p : PosterSeen (PrintJob N)). p.exec) poster };
    world = world;
    poster = poster;
    pool_is = pool_is;
    workers_are = workers_are;
    ends = ends;
    no_helped = none;
    for_helped = for_helped;
  }
