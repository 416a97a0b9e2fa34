use Rattle.std.proofs.Common.{◌≡◌, length, None}
use Rattle.collect_tests.proofs.rows.outcomes_kept.Given as goal

abbrev pub invariant-loop-more : goal.invariant-loop-more
invariant-loop-more l = record { end : l.kept.end ≡ None }

abbrev pub decreases-loop-more : goal.decreases-loop-more
decreases-loop-more l = length l.kept.outcomes
