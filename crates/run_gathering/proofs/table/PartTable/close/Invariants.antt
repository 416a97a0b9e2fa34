use Rattle.std.proofs.Common.{length}
use Rattle.run_gathering.proofs.table.PartTable.close.Given as goal

abbrev pub invariant-queries : goal.invariant-queries
invariant-queries g l = Unit {0}

abbrev pub decreases-queries : goal.decreases-queries
decreases-queries g l = length l.queries.items
