use Rattle.std.proofs.Common.{◌≡◌}
use Rattle.cells_tests.proofs.rows.cycle.Given as goal

abbrev pub invariant-loop : goal.invariant-loop
invariant-loop g l = l.pass.cells ≡ l.fn.pass.cells
