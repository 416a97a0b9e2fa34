use Rattle.std.proofs.Common.{length}
use Rattle.wheel_tests.proofs.rows.drain.Given as goal

abbrev pub decreases-loop-number : goal.decreases-loop-number
decreases-loop-number l = length l.rest
