use Rattle.queue_tests.specs.Lent.{IsSameSender, IsSameReceiver}
use Rattle.queue_tests.proofs.tests.bounce.Given as goal

abbrev pub invariant-loop-round : goal.invariant-loop-round
invariant-loop-round g l = (IsSameReceiver l.initial.receiver l.receiver) × (IsSameSender l.initial.sender l.sender)
