use Rattle.std.proofs.Common.{arith}
use Rattle.std.proofs.lemmas.Bool.Decides.{nat_tests}
use Rattle.id_table.proofs.Calls.{len_of}
use Rattle.id_table.proofs.table.IdTable.is_empty.Goals as goal

pub returns : goal.returns
returns g c = let len = len_of c.self.inside.bits c.self.inside.len c.self.inside.cells.items c.args.self.now c.self.invariant c.self.view_is in grind (arith, nat_tests)
