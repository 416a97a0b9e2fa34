use Rattle.std.proofs.Common.{ℕ, ◌<◌, sym, subst, arith, vec_len}
use Rattle.id_table.proofs.Calls.{some_there}
use Rattle.id_table.proofs.Probing.{home_in}
use Rattle.id_table.proofs.table.IdTable.touch.Goals as goal

pub index-requires : goal.index-requires
index-requires g c =
    let sized = (c.self.invariant.probed (some_there c.self.inside.bits c.self.inside.len c.self.inside.cells.items c.args.self.now c.self.invariant c.self.view_is c.if-len-eq0.false)).sized in
    let home = home_in c.self.inside.bits c.self.inside.cells.items c.args.id sized in
    subst (λ (h : ℕ). h < vec_len c.self.inside.cells) (sym c.home-at.ensures) (omega (arith, home, c.self.inside.cells.ok))
