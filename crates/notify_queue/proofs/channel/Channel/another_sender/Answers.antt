use Rattle.notify_queue.proofs.Deliveries.{makes}
use Rattle.notify_queue.proofs.channel.Channel.another_sender.Goals as goal

pub another-requires-clause-rule : goal.another-requires-clause-rule
another-requires-clause-rule g c = rw c.requires.0.1 (makes _ c.requires.1)
