use Rattle.std.proofs.Common.{length}
use Rattle.collect_tests.proofs.threads.outcomes_seen.Given as goal

abbrev pub decreases-loop-outcome : goal.decreases-loop-outcome
decreases-loop-outcome l = length l.list
