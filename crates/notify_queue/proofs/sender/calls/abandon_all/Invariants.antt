use Rattle.std.proofs.Common.{vec_len}
use Rattle.notify_queue.proofs.sender.calls.abandon_all.Given as goal

abbrev pub decreases-loop-sender : goal.decreases-loop-sender
decreases-loop-sender g l = vec_len l.senders
