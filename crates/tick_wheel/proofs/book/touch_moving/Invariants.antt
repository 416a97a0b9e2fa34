use Rattle.std.proofs.Common.{◌≡◌}
use Rattle.tick_wheel.proofs.book.touch_moving.Given as goal

abbrev pub invariant-loop-place : goal.invariant-loop-place
invariant-loop-place g l = l.table ≡ l.fn.table
