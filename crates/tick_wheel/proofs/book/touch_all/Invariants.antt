use Rattle.std.proofs.Common.{◌≡◌}
use Rattle.tick_wheel.proofs.book.touch_all.Given as goal

abbrev pub invariant-loop-id : goal.invariant-loop-id
invariant-loop-id g l = l.table ≡ l.fn.table
