use Rattle.std.proofs.Common.{◌≡◌, ◌+◌, ◌≤◌, suc, length}
use Rattle.std.specs.Prelude.{vec_capacity}
use Rattle.std.specs.Vec.Iter.{into_iter_items, into_iter_len}
use Rattle.run_setup.specs.Ids.{RunIds}
use Rattle.run_setup.specs.Opening.{AreNewBases, IsPrinterColumn}
use Rattle.run_setup.proofs.DealLemmas.{SlotsSoFar, TablesSoFar}
use Rattle.run_setup.proofs.dealing.gather_slots.Given as goal

abbrev pub invariant-loop-base : goal.invariant-loop-base
invariant-loop-base g l = record {
  room : length l.slots.items + length (into_iter_items l.left) ≤ vec_capacity l.slots;
  tables : length (into_iter_items l.given) ≡ length (into_iter_items l.left);
  dealt : TablesSoFar l.slots.items (into_iter_items l.given) l.fn.tables.items;
  so_far : (ids : RunIds) → AreNewBases g.N.RunName.asked ids l.fn.bases.items → IsPrinterColumn g.N.RunName.asked ids (suc g.N.RunName.asked.bases) l.initial.column
      → SlotsSoFar g.N.RunName.asked ids l.slots.items (into_iter_items l.left) l.column;
}

abbrev pub decreases-loop-base : goal.decreases-loop-base
decreases-loop-base g l = into_iter_len l.left
