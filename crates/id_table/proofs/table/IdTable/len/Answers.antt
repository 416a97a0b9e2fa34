use Rattle.id_table.proofs.Calls.{len_of}
use Rattle.id_table.proofs.table.IdTable.len.Goals as goal

pub returns : goal.returns
returns g c = len_of c.self.inside.bits c.self.inside.len c.self.inside.cells.items c.args.self.now c.self.invariant c.self.view_is
