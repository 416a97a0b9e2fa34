use Rattle.notify_queue.proofs.Deliveries.{joins}
use Rattle.notify_queue.proofs.channel.Channel.join_end.Goals as goal

pub absorb-requires-clause-rule : goal.absorb-requires-clause-rule
absorb-requires-clause-rule g c = rw c.requires.0.1 (joins _ _ _)
