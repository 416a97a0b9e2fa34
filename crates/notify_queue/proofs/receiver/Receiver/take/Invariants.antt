use Rattle.std.proofs.Common.{[]}
use Rattle.notify_queue.proofs.Takings.{TakesOn}
use Rattle.notify_queue.proofs.receiver.Receiver.take.Given as goal

abbrev pub invariant-loop : goal.invariant-loop
invariant-loop g l = TakesOn l.initial.self [] l.self
