use Rattle.std.proofs.Common.{length}
use Rattle.run_gathering.proofs.world.Gathering.into_parts.Given as goal

abbrev pub invariant-scorings : goal.invariant-scorings
invariant-scorings g l = Unit {0}

abbrev pub decreases-scorings : goal.decreases-scorings
decreases-scorings g l = length l.scorings.items
