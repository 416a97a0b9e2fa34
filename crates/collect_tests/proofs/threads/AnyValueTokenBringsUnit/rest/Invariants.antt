use Rattle.std.proofs.Common.{◌≡◌, length, None}
use Rattle.collect_tests.proofs.threads.AnyValueTokenBringsUnit.rest.Given as goal

abbrev pub invariant-loop-outcome : goal.invariant-loop-outcome
invariant-loop-outcome l = record { end : l.kept.end ≡ None }

abbrev pub decreases-loop-outcome : goal.decreases-loop-outcome
decreases-loop-outcome l = length l.kept.outcomes
