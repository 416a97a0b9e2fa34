use Rattle.pool_tests.specs.Ending.{IsPassOf}
use Rattle.pool_tests.proofs.tests.two.add_rows_with_two.Given as goal

abbrev pub invariant-loop-index : goal.invariant-loop-index
invariant-loop-index g l = record {
  first : IsPassOf l.fn.pool 0 l.index l.first;
  second : IsPassOf l.fn.pool 1 l.index l.second;
}
