use Rattle.notify_queue.proofs.Deliveries.{ends}
use Rattle.notify_queue.proofs.channel.Channel.end.Goals as goal

pub another-requires-clause-rule : goal.another-requires-clause-rule
another-requires-clause-rule g c = ends _ _ c.requires.1
