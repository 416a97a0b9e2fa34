use Rattle.std.proofs.Common.{arith}
use Rattle.id_table.proofs.Steps.{size_below}
use Rattle.id_table.proofs.refill.size_of.Goals as goal

pub overflow_mul-result : goal.overflow_mul-result
overflow_mul-result c = omega (arith, size_below c.args.bits c.requires)
