use Rattle.std.proofs.Common.{◌∙◌, ap, reverse}
use Rattle.queue_packets.specs.Blocks.{items_in}
use Rattle.queue_packets.proofs.Strings.{items-reverse}
use Rattle.queue_packets.proofs.packet.Packets.reversed.Goals as goal

pub returns : goal.returns
returns g c = ap items_in c.reversed.ensures ∙ items-reverse c.self.inside.blocks ∙ ap reverse c.self.view_is
