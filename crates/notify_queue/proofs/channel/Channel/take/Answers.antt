use Rattle.notify_queue.proofs.Deliveries.{pops, shows}
use Rattle.notify_queue.proofs.channel.Channel.take.Goals as goal

pub pop_as-requires-clause-rule : goal.pop_as-requires-clause-rule
pop_as-requires-clause-rule g c = rw c.requires.1 (pops _, shows _)
