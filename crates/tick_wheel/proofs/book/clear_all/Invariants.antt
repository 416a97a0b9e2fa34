use Rattle.std.proofs.Common.{length}
use Rattle.tick_wheel.proofs.ClearLoop.{ClearsSo}
use Rattle.tick_wheel.proofs.book.clear_all.Given as goal

abbrev pub invariant-loop-table : goal.invariant-loop-table
invariant-loop-table g l = ClearsSo l.fn.table l.table l.slots

abbrev pub decreases-loop-table : goal.decreases-loop-table
decreases-loop-table g l = length l.slots.late
