use Rattle.std.proofs.Common.{◌≤◌}
use Rattle.queue_tests.specs.Lent.{IsSameSender}
use Rattle.queue_tests.proofs.tests.put_pledges.Given as goal

abbrev pub invariant-loop-number : goal.invariant-loop-number
invariant-loop-number g l = (IsSameSender l.initial.sender l.sender) × (l.kept ≤ l.number)
