use Rattle.std.proofs.Common.{◌+◌, ◌≤◌, List, length}
use Rattle.std.specs.Prelude.{vec_capacity, All}
use Rattle.std.specs.Vec.Iter.{into_iter_items, into_iter_len}
use Rattle.run_stages.specs.Stages.{AllRan}
use Rattle.run_tasks.specs.Seen.{TaskSeen, WorldSeen}
use Rattle.run_tasks.specs.Worlds.{TaskRan}
use Rattle.run_threads.specs.declared.worker.WorkerSlot.{WorkerSlot}
use Rattle.run_threads.specs.Slots.{HasWorked, IsWorked}
use Rattle.run_setup.proofs.EndLemmas.{EndsSoFar}
use Rattle.run_setup.proofs.workers.worker_ends.Given as goal

abbrev pub invariant-loop-slot : goal.invariant-loop-slot
invariant-loop-slot g l = record {
  worked : All IsWorked (into_iter_items l.left);
  so_far : (old : List (WorkerSlot TaskSeen (WorldSeen g.row.N.Denot))) → AllRan (HasWorked TaskRan) old l.fn.slots.items → EndsSoFar old l.ends.items l.worlds.items (into_iter_items l.left);
  for_ends : length l.ends.items + length (into_iter_items l.left) ≤ vec_capacity l.ends;
  for_worlds : length l.worlds.items + length (into_iter_items l.left) ≤ vec_capacity l.worlds;
}

abbrev pub decreases-loop-slot : goal.decreases-loop-slot
decreases-loop-slot g l = into_iter_len l.left
