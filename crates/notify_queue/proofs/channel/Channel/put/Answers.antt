use Rattle.notify_queue.proofs.Deliveries.{pushes}
use Rattle.notify_queue.proofs.channel.Channel.put.Goals as goal

pub push_as-requires-clause-rule : goal.push_as-requires-clause-rule
push_as-requires-clause-rule g c = λ n. pushes n _ _ c.args.packet c.requires.pass.1 c.requires.sender c.requires.index c.requires.room
