use Rattle.std.proofs.Common.{◌-◌}
use Rattle.notify_queue.proofs.Receivings.{GoesOn}
use Rattle.notify_queue.proofs.receiver.Receiver.ended.Given as goal

abbrev pub invariant-loop-self : goal.invariant-loop-self
invariant-loop-self g l = GoesOn l.initial.self-inside l.self-inside

abbrev pub decreases-loop-self : goal.decreases-loop-self
decreases-loop-self g l = l.self-inside.senders - l.self-inside.found
