use Rattle.std.proofs.Common.{◌≡◌, None, length}
use Rattle.run_gathering.proofs.table.close_desk.Given as goal

abbrev pub invariant-outcomes : goal.invariant-outcomes
invariant-outcomes g l = l.kept.end ≡ None

abbrev pub decreases-outcomes : goal.decreases-outcomes
decreases-outcomes g l = length l.kept.outcomes
