use Rattle.notify_queue.proofs.Deliveries.{begins}
use Rattle.notify_queue.proofs.channel.Channel.open.Goals as goal

pub with_rule-requires : goal.with_rule-requires
with_rule-requires g c = begins
