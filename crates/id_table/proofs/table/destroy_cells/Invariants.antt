use Rattle.std.proofs.Common.{◌≡◌, ℕ, None, get_or}
use Rattle.id_table.proofs.table.destroy_cells.Given as goal

abbrev pub invariant-loop-cell : goal.invariant-loop-cell
invariant-loop-cell g l = (k : ℕ) → get_or l.cells.items k None ≡ None

abbrev pub decreases-loop-cell : goal.decreases-loop-cell
decreases-loop-cell g l = goal.left-loop-cell g l
