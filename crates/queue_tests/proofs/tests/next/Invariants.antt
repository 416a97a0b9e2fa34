use Rattle.queue_tests.specs.Lent.{IsSameReceiver}
use Rattle.queue_tests.proofs.tests.next.Given as goal

abbrev pub invariant-loop : goal.invariant-loop
invariant-loop g l = IsSameReceiver l.initial.receiver l.receiver
