use Rattle.std.proofs.Common.{arith}
use Rattle.id_table.proofs.Steps.{upper_below}
use Rattle.id_table.proofs.ring.home.Goals as goal

pub overflow_mul-result : goal.overflow_mul-result
overflow_mul-result c = omega (arith, upper_below c.args.bits c.args.id c.requires.within)
