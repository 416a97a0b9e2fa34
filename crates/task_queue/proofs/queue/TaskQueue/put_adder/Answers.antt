use Rattle.task_queue.proofs.Calls.{put_adder}
use Rattle.task_queue.proofs.queue.TaskQueue.put_adder.Goals as goal

pub absorb-requires-clause-rule : goal.absorb-requires-clause-rule
absorb-requires-clause-rule g c = put_adder g.J.Headed.head _ _ _ _ c.gathered.invariant.knows c.adder.invariant.knows
