use Rattle.std.proofs.Common.{length}
use Rattle.collect_tests.proofs.threads.seen_in.Given as goal

abbrev pub decreases-loop-portion : goal.decreases-loop-portion
decreases-loop-portion g l = length l.portions.items
