use Rattle.std.proofs.Common.{vec_len}
use Rattle.std.specs.VecDeque.{deque_len}
use Rattle.query_timers.proofs.waiters.Waiters.end.Given as goal

abbrev pub decreases-loop-slot : goal.decreases-loop-slot
decreases-loop-slot l = vec_len l.by_number

abbrev pub decreases-loop-waiter : goal.decreases-loop-waiter
decreases-loop-waiter l = deque_len l.fired
