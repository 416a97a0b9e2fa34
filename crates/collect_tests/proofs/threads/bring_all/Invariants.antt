use Rattle.std.proofs.Common.{length}
use Rattle.collect_tests.proofs.threads.bring_all.Given as goal

abbrev pub decreases-loop-arrival : goal.decreases-loop-arrival
decreases-loop-arrival g l = length l.portion.arrivals.items
