use Rattle.pool_tests.specs.Ending.{IsAdding}
use Rattle.pool_tests.proofs.tests.add_rows.Given as goal

abbrev pub invariant-loop-index : goal.invariant-loop-index
invariant-loop-index g l = IsAdding l.fn.pool l.adding.owner l.adding.keep l.adding.pass l.adding.helper l.index
