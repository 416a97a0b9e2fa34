use Rattle.std.proofs.Common.{◌<◌, sym, subst}
use Rattle.task_queue.specs.Seen.{MakerSeen}
use Rattle.task_queue.proofs.Calls.{make_adder}
use Rattle.task_queue.proofs.queue.TaskQueue.next_adder.Goals as goal

pub another-requires-clause-rule : goal.another-requires-clause-rule
another-requires-clause-rule g c = make_adder g.J.Headed.head _ _ c.maker.invariant.first c.maker.invariant.knows
    (subst (λ (m : MakerSeen). 0 < m.left) (sym c.maker.view_is) c.requires.left)
    (subst (λ (m : MakerSeen). m.adders < 64) (sym c.maker.view_is) c.requires.few)
