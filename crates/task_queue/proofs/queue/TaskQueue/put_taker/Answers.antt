use Rattle.task_queue.proofs.Calls.{put_taker}
use Rattle.task_queue.proofs.queue.TaskQueue.put_taker.Goals as goal

pub absorb-requires-clause-rule : goal.absorb-requires-clause-rule
absorb-requires-clause-rule g c = put_taker g.J.Headed.head _ _ _ _ c.gathered.invariant.knows c.taker.invariant.knows
