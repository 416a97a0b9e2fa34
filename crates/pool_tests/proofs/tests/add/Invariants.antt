use Rattle.pool_tests.specs.Ending.{IsAdding}
use Rattle.pool_tests.proofs.tests.add.Given as goal

abbrev pub invariant-loop : goal.invariant-loop
invariant-loop g l = IsAdding l.fn.pool l.adding.owner l.adding.keep l.adding.pass l.adding.helper l.fn.index
