use Rattle.std.proofs.Common.{◌≢◌, ℕ, ◌<◌, length}
use Rattle.id_table.specs.Cells.{id_at, mark_at, first_empty}
use Rattle.id_table.specs.Ring.{home_of, distance}
use Rattle.id_table.proofs.probe.look.Given as goal

abbrev pub invariant-loop-cell : goal.invariant-loop-cell
invariant-loop-cell g l =
    record {
      within : l.cell < length l.cells;
      passed : (j : ℕ) → j < length l.cells
          → distance (length l.cells) (home_of l.bits l.id) j < distance (length l.cells) (home_of l.bits l.id) l.cell
          → (0 < mark_at l.cells j) × (id_at l.cells j ≢ l.id);
    }

abbrev pub decreases-loop-cell : goal.decreases-loop-cell
decreases-loop-cell g l = distance (length l.cells) l.cell (first_empty l.cells)
