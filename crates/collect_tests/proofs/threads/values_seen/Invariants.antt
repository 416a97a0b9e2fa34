use Rattle.std.proofs.Common.{length}
use Rattle.collect_tests.proofs.threads.values_seen.Given as goal

abbrev pub decreases-loop-value : goal.decreases-loop-value
decreases-loop-value l = length l.list
