use Rattle.notify_queue.proofs.Counts.{CountedTo}
use Rattle.notify_queue.proofs.receiver.counts.count_all.Given as goal

abbrev pub invariant-loop-place : goal.invariant-loop-place
invariant-loop-place g l = CountedTo l.initial.counts.items l.counts.items l.messages l.place
