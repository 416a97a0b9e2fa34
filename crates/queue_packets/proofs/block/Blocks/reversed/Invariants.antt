use Rattle.std.proofs.Common.{◌≡◌, ◌++◌, reverse, length}
use Rattle.queue_packets.proofs.block.Blocks.reversed.Given as goal

abbrev pub invariant-loop-block : goal.invariant-loop-block
invariant-loop-block g l = reverse l.self ++ l.turned ≡ reverse l.initial.self

abbrev pub decreases-loop-block : goal.decreases-loop-block
decreases-loop-block g l = length l.self
