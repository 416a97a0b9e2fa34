use Rattle.std.proofs.Common.{None, get_or, sym, ap, subst, ◌∙◌, ◌<◌, arith}
use Rattle.id_table.specs.Cells.{mark_at, pairs_of, renumbered, replaced}
use Rattle.id_table.specs.Probed.{EndsLook}
use Rattle.id_table.specs.Table.{IsTable}
use Rattle.id_table.specs.Pairs.{IsRenumbered}
use Rattle.id_table.proofs.Replaced.{held_mark, number_is, table_is}
use Rattle.id_table.proofs.Rooms.{given_back}
use Rattle.id_table.proofs.table.IdTable+tuple2+u64+X.set.Goals as goal

pub renumber-requires-clause-filled : goal.renumber-requires-clause-filled
renumber-requires-clause-filled g c =
    let ends = subst (λ xs. EndsLook c.self.inside.bits xs c.args.id c.look-at.result) c.deref.ensures.value c.look-at.ensures in
    subst (λ xs. 0 < mark_at xs c.look-at.result) (sym c.deref_mut.ensures.value) (held_mark c.self.inside.bits c.self.inside.len c.self.inside.cells.items c.args.self.now c.self.invariant c.self.view_is c.args.id c.look-at.result ends c.requires.held)

pub invariant_of-self : goal.invariant_of-self
invariant_of-self g c =
    let ends = subst (λ xs. EndsLook c.self.inside.bits xs c.args.id c.look-at.result) c.deref.ensures.value c.look-at.ensures in
    let back = given_back c.renumber.new.cells c.self.inside.cells.items c.self.inside.cells.len (omega (arith, c.renumber.auto.cells, c.deref_mut.ensures.len, c.self.inside.cells.ok)) in
    subst (IsTable c.self.inside.bits c.self.inside.len) (sym back)
    (table_is c.self.inside.bits c.self.inside.len c.self.inside.cells.items c.args.self.now c.self.invariant c.self.view_is c.renumber.new.cells c.args.id c.look-at.result c.args.number ends c.requires.held
    (λ cell there. c.renumber.ensures cell (ap (λ xs. get_or xs c.look-at.result None) c.deref_mut.ensures.value ∙ there)
    ∙ ap (λ xs. replaced xs c.look-at.result (renumbered cell c.args.number)) c.deref_mut.ensures.value))

pub returns : goal.returns
returns g c =
    let ends = subst (λ xs. EndsLook c.self.inside.bits xs c.args.id c.look-at.result) c.deref.ensures.value c.look-at.ensures in
    let back = given_back c.renumber.new.cells c.self.inside.cells.items c.self.inside.cells.len (omega (arith, c.renumber.auto.cells, c.deref_mut.ensures.len, c.self.inside.cells.ok)) in
    subst (λ xs. IsRenumbered c.args.self.now (pairs_of xs) c.args.id c.args.number) (sym back)
    (number_is c.self.inside.bits c.self.inside.len c.self.inside.cells.items c.args.self.now c.self.invariant c.self.view_is c.renumber.new.cells c.args.id c.look-at.result c.args.number ends c.requires.held
    (λ cell there. c.renumber.ensures cell (ap (λ xs. get_or xs c.look-at.result None) c.deref_mut.ensures.value ∙ there)
    ∙ ap (λ xs. replaced xs c.look-at.result (renumbered cell c.args.number)) c.deref_mut.ensures.value))
