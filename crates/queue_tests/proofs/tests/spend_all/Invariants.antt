use Rattle.std.proofs.Common.{vec_len}
use Rattle.queue_tests.proofs.tests.spend_all.Given as goal

abbrev pub decreases-loop-stamped : goal.decreases-loop-stamped
decreases-loop-stamped l = vec_len l.got
