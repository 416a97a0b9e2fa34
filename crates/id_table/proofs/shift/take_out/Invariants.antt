use Rattle.std.proofs.Common.{◌≡◌, ◌∷◌, length, IsPermutation}
use Rattle.id_table.specs.Cells.{first_empty, pairs_of}
use Rattle.id_table.specs.Probed.{IsShifting}
use Rattle.id_table.specs.Ring.{distance}
use Rattle.id_table.proofs.shift.take_out.Given as goal

abbrev pub invariant-loop-cells : goal.invariant-loop-cells
invariant-loop-cells g l =
    record {
      len : length l.cells ≡ length l.fn.cells;
      shifting : IsShifting l.bits l.cells l.hole l.cell (first_empty l.fn.cells);
      pairs : IsPermutation (pairs_of l.fn.cells) ((l.taken.id, l.taken.value) ∷ pairs_of l.cells);
    }

abbrev pub decreases-loop-cells : goal.decreases-loop-cells
decreases-loop-cells g l = distance (length l.fn.cells) l.cell (first_empty l.fn.cells)
