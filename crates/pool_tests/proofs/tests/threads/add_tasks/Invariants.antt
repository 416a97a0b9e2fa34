use Rattle.pool_tests.specs.Ending.{IsAdding}
use Rattle.pool_tests.proofs.tests.threads.add_tasks.Given as goal

abbrev pub invariant-loop-id : goal.invariant-loop-id
invariant-loop-id g l = IsAdding l.fn.pool l.adding.owner l.adding.keep l.adding.pass l.adding.helper l.id
