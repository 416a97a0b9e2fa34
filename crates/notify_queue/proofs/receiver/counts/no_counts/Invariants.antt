use Rattle.std.proofs.Common.{◌≡◌, ◌≤◌, replicate, vec_capacity}
use Rattle.notify_queue.proofs.receiver.counts.no_counts.Given as goal

abbrev pub invariant-loop : goal.invariant-loop
invariant-loop l = record {
  zeros : l.counts.items ≡ replicate l.counter 0;
  room : l.senders ≤ vec_capacity l.counts;
}
