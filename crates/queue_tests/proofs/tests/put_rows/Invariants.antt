use Rattle.queue_tests.specs.Lent.{IsSameSender}
use Rattle.queue_tests.proofs.tests.put_rows.Given as goal

abbrev pub invariant-loop-row : goal.invariant-loop-row
invariant-loop-row g l = (IsSameSender l.initial.first l.first) × (IsSameSender l.initial.second l.second)
