use Rattle.std.proofs.Common.{length}
use Rattle.queue_packets.specs.Blocks.{strung_from}
use Rattle.queue_packets.proofs.block.Blocks.drop.Given as goal

abbrev pub decreases-loop-first : goal.decreases-loop-first
decreases-loop-first g l = length (strung_from l.first)
