use Rattle.std.proofs.Common.{length}
use Rattle.run_gathering.proofs.Contents.{PartsSoFar}
use Rattle.run_gathering.proofs.merge.contents.Given as goal

abbrev pub invariant-loop-outcome : goal.invariant-loop-outcome
invariant-loop-outcome g l = PartsSoFar g.N.RunName.asked l.fn.number (length l.fn.list) (length l.list) l.shard l.parts.items

abbrev pub decreases-loop-outcome : goal.decreases-loop-outcome
decreases-loop-outcome g l = length l.list
