use Rattle.std.proofs.Common.{◌-◌, ◌∷◌, None, get_or, sym, ap, ◌∙◌, subst, arith, IsPermutation}
use Rattle.std.proofs.lemmas.List.{get_or_read}
use Rattle.id_table.specs.Cells.{pairs_of}
use Rattle.id_table.specs.Probed.{EndsLook}
use Rattle.id_table.specs.Table.{IsTable}
use Rattle.id_table.proofs.Calls.{HasLess, distinct_of, zero_there, missed_there, take_less, taken_table}
use Rattle.id_table.proofs.Probing.{none_mark}
use Rattle.id_table.proofs.Rooms.{given_back}
use Rattle.id_table.proofs.Values.{none_values}
use Rattle.id_table.proofs.table.IdTable.remove.Goals as goal

pub returns-then-len-eq0-clause-value : goal.returns-then-len-eq0-clause-value
returns-then-len-eq0-clause-value g c = sym (zero_there c.self.inside.bits c.self.inside.len c.self.inside.cells.items c.args.self.now c.self.invariant c.self.view_is c.args.id c.if-len-eq0.true)

pub returns-then-len-eq0-clause-values : goal.returns-then-len-eq0-clause-values
returns-then-len-eq0-clause-values g c = none_values c.args.self.now c.args.id (zero_there c.self.inside.bits c.self.inside.len c.self.inside.cells.items c.args.self.now c.self.invariant c.self.view_is c.args.id c.if-len-eq0.true)

pub returns-then-len-eq0-clause-distinct : goal.returns-then-len-eq0-clause-distinct
returns-then-len-eq0-clause-distinct g c = distinct_of c.self.inside.bits c.self.inside.len c.self.inside.cells.items c.args.self.now c.self.invariant c.self.view_is

pub returns-then-is_none-clause-value : goal.returns-then-is_none-clause-value
returns-then-is_none-clause-value g c =
    let ends = subst (λ xs. EndsLook c.self.inside.bits xs c.args.id c.look-at.result) c.deref.ensures.value c.look-at.ensures in
    let read = get_or_read c.self.inside.cells.items c.look-at.result c.index.result.now ends.within c.index.ensures None in
    sym (missed_there c.self.inside.bits c.self.inside.len c.self.inside.cells.items c.args.self.now c.self.invariant c.self.view_is c.args.id c.look-at.result ends
    (none_mark c.index.result.now (get_or c.self.inside.cells.items c.look-at.result None) read c.is_none.result c.is_none.ensures c.if-is_none.true))

pub returns-then-is_none-clause-values : goal.returns-then-is_none-clause-values
returns-then-is_none-clause-values g c =
    let ends = subst (λ xs. EndsLook c.self.inside.bits xs c.args.id c.look-at.result) c.deref.ensures.value c.look-at.ensures in
    let read = get_or_read c.self.inside.cells.items c.look-at.result c.index.result.now ends.within c.index.ensures None in
    none_values c.args.self.now c.args.id
    (missed_there c.self.inside.bits c.self.inside.len c.self.inside.cells.items c.args.self.now c.self.invariant c.self.view_is c.args.id c.look-at.result ends
    (none_mark c.index.result.now (get_or c.self.inside.cells.items c.look-at.result None) read c.is_none.result c.is_none.ensures c.if-is_none.true))

pub returns-then-is_none-clause-distinct : goal.returns-then-is_none-clause-distinct
returns-then-is_none-clause-distinct g c = distinct_of c.self.inside.bits c.self.inside.len c.self.inside.cells.items c.args.self.now c.self.invariant c.self.view_is

pub invariant_of-self : goal.invariant_of-self
invariant_of-self g c =
    let less = subst (λ xs. IsPermutation (pairs_of xs) ((c.take_out-value.result.id, c.take_out-value.result.value) ∷ pairs_of c.take_out-value.new.cells)) c.deref_mut.ensures.value c.take_out-value.ensures.pairs in
    let back = given_back c.take_out-value.new.cells c.self.inside.cells.items c.self.inside.cells.len (omega (arith, c.take_out-value.auto.cells, c.deref_mut.ensures.len, c.self.inside.cells.ok)) in
    subst (IsTable c.self.inside.bits (c.self.inside.len - 1)) (sym back)
    (taken_table c.self.inside.bits c.self.inside.len c.self.inside.cells.items c.args.self.now c.self.invariant c.self.view_is
    c.take_out-value.new.cells c.take_out-value.result less c.take_out-value.ensures.probed)

pub returns-clause-value : goal.returns-clause-value
returns-clause-value g c =
    let ends = subst (λ xs. EndsLook c.self.inside.bits xs c.args.id c.look-at.result) c.deref.ensures.value c.look-at.ensures in
    let was = ap (λ xs. get_or xs c.look-at.result None) (sym c.deref_mut.ensures.value) ∙ c.take_out-value.ensures.was in
    let less = subst (λ xs. IsPermutation (pairs_of xs) ((c.take_out-value.result.id, c.take_out-value.result.value) ∷ pairs_of c.take_out-value.new.cells)) c.deref_mut.ensures.value c.take_out-value.ensures.pairs in
    let back = given_back c.take_out-value.new.cells c.self.inside.cells.items c.self.inside.cells.len (omega (arith, c.take_out-value.auto.cells, c.deref_mut.ensures.len, c.self.inside.cells.ok)) in
    let took = take_less c.self.inside.bits c.self.inside.len c.self.inside.cells.items c.args.self.now c.self.invariant c.self.view_is
    c.take_out-value.new.cells c.args.id c.look-at.result c.take_out-value.result ends was less c.take_out-value.ensures.probed in
    (subst (λ xs. HasLess c.args.self.now (pairs_of xs) c.args.id c.take_out-value.result.value) (sym back) took).was

pub returns-clause-values : goal.returns-clause-values
returns-clause-values g c =
    let ends = subst (λ xs. EndsLook c.self.inside.bits xs c.args.id c.look-at.result) c.deref.ensures.value c.look-at.ensures in
    let was = ap (λ xs. get_or xs c.look-at.result None) (sym c.deref_mut.ensures.value) ∙ c.take_out-value.ensures.was in
    let less = subst (λ xs. IsPermutation (pairs_of xs) ((c.take_out-value.result.id, c.take_out-value.result.value) ∷ pairs_of c.take_out-value.new.cells)) c.deref_mut.ensures.value c.take_out-value.ensures.pairs in
    let back = given_back c.take_out-value.new.cells c.self.inside.cells.items c.self.inside.cells.len (omega (arith, c.take_out-value.auto.cells, c.deref_mut.ensures.len, c.self.inside.cells.ok)) in
    let took = take_less c.self.inside.bits c.self.inside.len c.self.inside.cells.items c.args.self.now c.self.invariant c.self.view_is
    c.take_out-value.new.cells c.args.id c.look-at.result c.take_out-value.result ends was less c.take_out-value.ensures.probed in
    (subst (λ xs. HasLess c.args.self.now (pairs_of xs) c.args.id c.take_out-value.result.value) (sym back) took).values

pub returns-clause-pairs : goal.returns-clause-pairs
returns-clause-pairs g c =
    let ends = subst (λ xs. EndsLook c.self.inside.bits xs c.args.id c.look-at.result) c.deref.ensures.value c.look-at.ensures in
    let was = ap (λ xs. get_or xs c.look-at.result None) (sym c.deref_mut.ensures.value) ∙ c.take_out-value.ensures.was in
    let less = subst (λ xs. IsPermutation (pairs_of xs) ((c.take_out-value.result.id, c.take_out-value.result.value) ∷ pairs_of c.take_out-value.new.cells)) c.deref_mut.ensures.value c.take_out-value.ensures.pairs in
    let back = given_back c.take_out-value.new.cells c.self.inside.cells.items c.self.inside.cells.len (omega (arith, c.take_out-value.auto.cells, c.deref_mut.ensures.len, c.self.inside.cells.ok)) in
    let took = take_less c.self.inside.bits c.self.inside.len c.self.inside.cells.items c.args.self.now c.self.invariant c.self.view_is
    c.take_out-value.new.cells c.args.id c.look-at.result c.take_out-value.result ends was less c.take_out-value.ensures.probed in
    (subst (λ xs. HasLess c.args.self.now (pairs_of xs) c.args.id c.take_out-value.result.value) (sym back) took).same

pub returns-clause-len : goal.returns-clause-len
returns-clause-len g c =
    let ends = subst (λ xs. EndsLook c.self.inside.bits xs c.args.id c.look-at.result) c.deref.ensures.value c.look-at.ensures in
    let was = ap (λ xs. get_or xs c.look-at.result None) (sym c.deref_mut.ensures.value) ∙ c.take_out-value.ensures.was in
    let less = subst (λ xs. IsPermutation (pairs_of xs) ((c.take_out-value.result.id, c.take_out-value.result.value) ∷ pairs_of c.take_out-value.new.cells)) c.deref_mut.ensures.value c.take_out-value.ensures.pairs in
    let back = given_back c.take_out-value.new.cells c.self.inside.cells.items c.self.inside.cells.len (omega (arith, c.take_out-value.auto.cells, c.deref_mut.ensures.len, c.self.inside.cells.ok)) in
    let took = take_less c.self.inside.bits c.self.inside.len c.self.inside.cells.items c.args.self.now c.self.invariant c.self.view_is
    c.take_out-value.new.cells c.args.id c.look-at.result c.take_out-value.result ends was less c.take_out-value.ensures.probed in
    (subst (λ xs. HasLess c.args.self.now (pairs_of xs) c.args.id c.take_out-value.result.value) (sym back) took).len

pub returns-clause-distinct : goal.returns-clause-distinct
returns-clause-distinct g c =
    let ends = subst (λ xs. EndsLook c.self.inside.bits xs c.args.id c.look-at.result) c.deref.ensures.value c.look-at.ensures in
    let was = ap (λ xs. get_or xs c.look-at.result None) (sym c.deref_mut.ensures.value) ∙ c.take_out-value.ensures.was in
    let less = subst (λ xs. IsPermutation (pairs_of xs) ((c.take_out-value.result.id, c.take_out-value.result.value) ∷ pairs_of c.take_out-value.new.cells)) c.deref_mut.ensures.value c.take_out-value.ensures.pairs in
    let back = given_back c.take_out-value.new.cells c.self.inside.cells.items c.self.inside.cells.len (omega (arith, c.take_out-value.auto.cells, c.deref_mut.ensures.len, c.self.inside.cells.ok)) in
    let took = take_less c.self.inside.bits c.self.inside.len c.self.inside.cells.items c.args.self.now c.self.invariant c.self.view_is
    c.take_out-value.new.cells c.args.id c.look-at.result c.take_out-value.result ends was less c.take_out-value.ensures.probed in
    (subst (λ xs. HasLess c.args.self.now (pairs_of xs) c.args.id c.take_out-value.result.value) (sym back) took).distinct
