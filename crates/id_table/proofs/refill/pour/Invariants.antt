use Rattle.std.proofs.Common.{◌≡◌, ◌++◌, length, IsPermutation}
use Rattle.id_table.specs.Cells.{pairs_of}
use Rattle.id_table.specs.Probed.{IsProbed}
use Rattle.id_table.proofs.refill.pour.Given as goal

abbrev pub invariant-loop-cell : goal.invariant-loop-cell
invariant-loop-cell g l =
    record {
      len : length l.cells ≡ length l.fn.cells;
      probed : IsProbed l.bits l.cells;
      pairs : IsPermutation (pairs_of l.old.items ++ pairs_of l.cells) (pairs_of l.fn.old.items);
    }

abbrev pub decreases-loop-cell : goal.decreases-loop-cell
decreases-loop-cell g l = goal.left-loop-cell g l
