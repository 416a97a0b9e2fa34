use Rattle.std.proofs.Common.{◌≡◌, ◌+◌, ◌≤◌, ◌++◌, ◌||◌, suc, length, map}
use Rattle.std.specs.Prelude.{vec_capacity}
use Rattle.std.specs.List.{list_any}
use Rattle.std.specs.Vec.Iter.{into_iter_items, into_iter_len}
use Rattle.run_tasks.specs.declared.world.TaskEnds.{TaskEnds}
use Rattle.run_setup.specs.Closing.{AreColumnsBack, AreWorldEnds, merged_with}
use Rattle.run_setup.specs.Ids.{RunIds}
use Rattle.run_setup.proofs.CollectLemmas.{WorldsSoFar}
use Rattle.run_setup.proofs.collecting.Worlds.put_all.Given as goal

abbrev pub invariant-loop-world : goal.invariant-loop-world
invariant-loop-world g l = record {
  passes : l.self.passes.items ++ map (λ (w : TaskEnds g.row.N.Denot). w.pass) (into_iter_items l.left) ≡ l.initial.self.passes.items ++ map (λ (w : TaskEnds g.row.N.Denot). w.pass) l.fn.worlds.items;
  room : length l.self.passes.items + length (into_iter_items l.left) ≤ vec_capacity l.self.passes;
  capacity : vec_capacity l.self.passes ≡ vec_capacity l.initial.self.passes;
  tally : merged_with l.self.counted.tally (map (λ (w : TaskEnds g.row.N.Denot). w.tally) (into_iter_items l.left))
      ≡ merged_with l.initial.self.counted.tally (map (λ (w : TaskEnds g.row.N.Denot). w.tally) l.fn.worlds.items);
  refused : l.self.counted.refused || list_any (λ (w : TaskEnds g.row.N.Denot). w.refused) (into_iter_items l.left)
      ≡ l.initial.self.counted.refused || list_any (λ (w : TaskEnds g.row.N.Denot). w.refused) l.fn.worlds.items;
  so_far : (ids : RunIds) → AreColumnsBack ids (suc ids.workers) l.initial.self.columns.items → AreWorldEnds ids l.fn.worlds.items → WorldsSoFar ids (into_iter_items l.left) l.self.columns.items;
}

abbrev pub decreases-loop-world : goal.decreases-loop-world
decreases-loop-world g l = into_iter_len l.left
