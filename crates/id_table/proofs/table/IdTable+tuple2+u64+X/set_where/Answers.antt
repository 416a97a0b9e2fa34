use Rattle.std.proofs.Common.{ap, subst, ◌∙◌}
use Rattle.id_table.specs.Cells.{pairs_of}
use Rattle.id_table.specs.Probed.{EndsLook}
use Rattle.id_table.proofs.Replaced.{had_number, none_number, number_held, number_is, other_number, table_where}
use Rattle.id_table.proofs.table.IdTable+tuple2+u64+X.set_where.Goals as goal

pub returns-then-len-eq0-clause-other : goal.returns-then-len-eq0-clause-other
returns-then-len-eq0-clause-other g c = λ _.
    none_number c.self.inside.bits c.self.inside.len c.self.inside.cells.items c.args.self.now c.self.invariant c.self.view_is c.args.id c.args.before c.if-len-eq0.true

pub invariant_of-self : goal.invariant_of-self
invariant_of-self g c =
    let ends = subst (λ xs. EndsLook c.self.inside.bits xs c.args.id c.look-at.result) c.deref.ensures.value c.look-at.ensures in
    table_where c.self.inside.bits c.self.inside.len c.self.inside.cells.items c.args.self.now c.self.invariant c.self.view_is c.renumber_where.new.cells.items c.args.id c.look-at.result c.args.number c.renumber_where.result ends
    c.renumber_where.ensures.filled c.renumber_where.ensures.set c.renumber_where.ensures.same

pub returns-clause-held : goal.returns-clause-held
returns-clause-held g c = λ yes.
    let ends = subst (λ xs. EndsLook c.self.inside.bits xs c.args.id c.look-at.result) c.deref.ensures.value c.look-at.ensures in
    had_number c.self.inside.bits c.self.inside.len c.self.inside.cells.items c.args.self.now c.self.invariant c.self.view_is c.args.id c.look-at.result c.args.before ends (c.renumber_where.ensures.filled yes) (c.renumber_where.ensures.had yes)

pub returns-clause-set : goal.returns-clause-set
returns-clause-set g c = λ yes.
    let ends = subst (λ xs. EndsLook c.self.inside.bits xs c.args.id c.look-at.result) c.deref.ensures.value c.look-at.ensures in
    let had = had_number c.self.inside.bits c.self.inside.len c.self.inside.cells.items c.args.self.now c.self.invariant c.self.view_is c.args.id c.look-at.result c.args.before ends (c.renumber_where.ensures.filled yes) (c.renumber_where.ensures.had yes) in
    number_is c.self.inside.bits c.self.inside.len c.self.inside.cells.items c.args.self.now c.self.invariant c.self.view_is c.renumber_where.new.cells.items c.args.id c.look-at.result c.args.number ends
    (number_held c.self.inside.bits c.self.inside.len c.self.inside.cells.items c.args.self.now c.self.invariant c.self.view_is c.args.id c.args.before had) (c.renumber_where.ensures.set yes)

pub returns-clause-other : goal.returns-clause-other
returns-clause-other g c = λ no.
    let ends = subst (λ xs. EndsLook c.self.inside.bits xs c.args.id c.look-at.result) c.deref.ensures.value c.look-at.ensures in
    other_number c.self.inside.bits c.self.inside.len c.self.inside.cells.items c.args.self.now c.self.invariant c.self.view_is c.args.id c.look-at.result c.args.before ends (c.renumber_where.ensures.other no)

pub returns-clause-same : goal.returns-clause-same
returns-clause-same g c = λ no. ap pairs_of (c.renumber_where.ensures.same no) ∙ c.self.view_is
