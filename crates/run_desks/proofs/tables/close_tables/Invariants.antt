use Rattle.std.proofs.Common.{length}
use Rattle.run_desks.proofs.tables.close_tables.Given as goal

abbrev pub invariant-tables : goal.invariant-tables
invariant-tables g l = Unit {0}

abbrev pub decreases-tables : goal.decreases-tables
decreases-tables g l = length l.tables.items
