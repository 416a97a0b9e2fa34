use Rattle.std.proofs.Common.{map}
use Rattle.std.specs.VecDeque.{deque_len}
use Rattle.notify_queue.specs.declared.stamp.Stamped.{Stamped}
use Rattle.event_base.proofs.SoFar.{AllSoFar}
use Rattle.event_base.proofs.phases.run_messages.Given as goal

abbrev pub invariant-loop-message : goal.invariant-loop-message
invariant-loop-message g l =
    AllSoFar g.J.Headed.head g.J.LoopJob.runs (map (λ (x : Stamped g.row.J.Denot). x.message) l.initial.messages.items) (l.initial.world, l.initial.agenda)
    (map (λ (x : Stamped g.row.J.Denot). x.message) l.messages.items) (l.world, l.agenda)

abbrev pub decreases-loop-message : goal.decreases-loop-message
decreases-loop-message g l = deque_len l.messages
