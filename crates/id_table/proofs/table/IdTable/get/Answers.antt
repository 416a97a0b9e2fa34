use Rattle.std.proofs.Common.{None, sym, subst, ◌∙◌}
use Rattle.std.proofs.lemmas.List.{get_or_read}
use Rattle.id_table.specs.Probed.{EndsLook}
use Rattle.id_table.proofs.Calls.{distinct_of, zero_there, missed_there, found_there}
use Rattle.id_table.proofs.Probing.{mark_none}
use Rattle.id_table.proofs.table.IdTable.get.Goals as goal

pub returns-then-len-eq0-clause-value : goal.returns-then-len-eq0-clause-value
returns-then-len-eq0-clause-value g c = sym (zero_there c.self.inside.bits c.self.inside.len c.self.inside.cells.items c.args.self.now c.self.invariant c.self.view_is c.args.id c.if-len-eq0.true)

pub returns-then-len-eq0-clause-distinct : goal.returns-then-len-eq0-clause-distinct
returns-then-len-eq0-clause-distinct g c = distinct_of c.self.inside.bits c.self.inside.len c.self.inside.cells.items c.args.self.now c.self.invariant c.self.view_is

pub returns-in_default-clause-value : goal.returns-in_default-clause-value
returns-in_default-clause-value g c =
    let ends = subst (λ xs. EndsLook c.self.inside.bits xs c.args.id c.look-at.result) c.deref.ensures.value c.look-at.ensures in
    let read = get_or_read c.self.inside.cells.items c.look-at.result c.index.result.now ends.within c.index.ensures None in
    sym (missed_there c.self.inside.bits c.self.inside.len c.self.inside.cells.items c.args.self.now c.self.invariant c.self.view_is c.args.id c.look-at.result ends
    (mark_none c.self.inside.cells.items c.look-at.result c.index.result.now read c.in_default.not-Some))

pub returns-in_default-clause-distinct : goal.returns-in_default-clause-distinct
returns-in_default-clause-distinct g c = distinct_of c.self.inside.bits c.self.inside.len c.self.inside.cells.items c.args.self.now c.self.invariant c.self.view_is

pub returns-clause-value : goal.returns-clause-value
returns-clause-value g c =
    let ends = subst (λ xs. EndsLook c.self.inside.bits xs c.args.id c.look-at.result) c.deref.ensures.value c.look-at.ensures in
    let read = get_or_read c.self.inside.cells.items c.look-at.result c.index.result.now ends.within c.index.ensures None in
    sym (found_there c.self.inside.bits c.self.inside.len c.self.inside.cells.items c.args.self.now c.self.invariant c.self.view_is c.args.id c.look-at.result c.in-Some.cell ends
    (sym read ∙ c.in-Some.is))

pub returns-clause-distinct : goal.returns-clause-distinct
returns-clause-distinct g c = distinct_of c.self.inside.bits c.self.inside.len c.self.inside.cells.items c.args.self.now c.self.invariant c.self.view_is
