use Rattle.std.proofs.Common.{◌<◌, sym, subst}
use Rattle.task_queue.specs.Seen.{MakerSeen}
use Rattle.task_queue.proofs.Calls.{make_taker}
use Rattle.task_queue.proofs.queue.TaskQueue.next_taker.Goals as goal

pub another-requires-clause-rule : goal.another-requires-clause-rule
another-requires-clause-rule g c = make_taker g.J.Headed.head _ _ c.maker.invariant.first c.maker.invariant.knows
    (subst (λ (m : MakerSeen). 0 < m.left) (sym c.maker.view_is) c.requires.left)
