use Rattle.std.proofs.Common.{◌≡◌, ◌+◌, ◌≤◌, ◌++◌}
use Rattle.std.specs.VecDeque.{deque_len, deque_capacity}
use Rattle.event_base.proofs.room.join_queues.Given as goal

abbrev pub invariant-loop-job : goal.invariant-loop-job
invariant-loop-job g l = record {
  all : l.ahead.items ++ l.queue.items ≡ l.initial.ahead.items ++ l.initial.queue.items;
  room : deque_len l.ahead + deque_len l.queue ≤ deque_capacity l.ahead;
}

abbrev pub decreases-loop-job : goal.decreases-loop-job
decreases-loop-job g l = deque_len l.queue
