use Rattle.task_queue.proofs.Making.{begins, counts}
use Rattle.task_queue.proofs.queue.TaskQueue.new.Goals as goal

pub with_rule-requires : goal.with_rule-requires
with_rule-requires g c = begins g.J.Headed.head

pub another-requires-clause-rule : goal.another-requires-clause-rule
another-requires-clause-rule g c = rw (c.loop.invariant.pass_of.1, c.loop.invariant.counted) (counts g.J.Headed.head c.loop.counter 0 0)
