use Rattle.task_queue.proofs.Calls.{gather}
use Rattle.task_queue.proofs.queue.TaskQueue.gather.Goals as goal

pub another-requires-clause-rule : goal.another-requires-clause-rule
another-requires-clause-rule g c = gather g.J.Headed.head _ _ c.adder.invariant.knows
