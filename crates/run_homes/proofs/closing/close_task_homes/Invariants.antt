use Rattle.std.proofs.Common.{length}
use Rattle.run_homes.proofs.closing.close_task_homes.Given as goal

abbrev pub invariant-homes : goal.invariant-homes
invariant-homes g l = Unit {0}

abbrev pub decreases-homes : goal.decreases-homes
decreases-homes g l = length l.homes.items
