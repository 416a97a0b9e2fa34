use Rattle.std.proofs.Common.{◌≡◌, ◌+◌, ◌∷◌, sym, subst, arith, IsPermutation}
use Rattle.id_table.specs.Cells.{pairs_of, held}
use Rattle.id_table.specs.Pairs.{has_id}
use Rattle.id_table.specs.Table.{IsTable}
use Rattle.id_table.proofs.Calls.{HasMore, free_there, put_more, put_table}
use Rattle.id_table.proofs.Rooms.{given_back}
use Rattle.id_table.proofs.table.IdTable.insert.Goals as goal

pub fill-requires-clause-free : goal.fill-requires-clause-free
fill-requires-clause-free g c =
    subst (λ xs. held (has_id c.args.id) xs ≡ 0) (sym c.deref_mut.ensures.value)
    (free_there c.self.inside.bits c.self.inside.len c.self.inside.cells.items c.args.self.now c.self.invariant c.self.view_is c.args.id
    c.make_room.new.cells.items c.in_default.ensures.pairs c.requires.free)

pub invariant_of-self-2 : goal.invariant_of-self-2
invariant_of-self-2 g c =
    let more = subst (λ xs. IsPermutation (pairs_of c.fill.new.cells) ((c.args.id, c.args.value) ∷ pairs_of xs)) c.deref_mut.ensures.value c.fill.ensures.pairs in
    let back = given_back c.fill.new.cells c.make_room.new.cells.items c.make_room.new.cells.len (omega (arith, c.fill.auto.cells, c.deref_mut.ensures.len, c.make_room.new.cells.ok)) in
    subst (IsTable c.make_room.new.bits (c.self.inside.len + 1)) (sym back)
    (put_table c.make_room.new.bits c.self.inside.len c.make_room.new.cells.items c.fill.new.cells (record { id = c.args.id; value = c.args.value })
    c.in_default.ensures.room c.fill.ensures.probed more)

pub returns-clause-values : goal.returns-clause-values
returns-clause-values g c =
    let more = subst (λ xs. IsPermutation (pairs_of c.fill.new.cells) ((c.args.id, c.args.value) ∷ pairs_of xs)) c.deref_mut.ensures.value c.fill.ensures.pairs in
    let back = given_back c.fill.new.cells c.make_room.new.cells.items c.make_room.new.cells.len (omega (arith, c.fill.auto.cells, c.deref_mut.ensures.len, c.make_room.new.cells.ok)) in
    let put = put_more c.self.inside.cells.items c.make_room.new.cells.items c.fill.new.cells c.args.self.now c.make_room.new.bits c.args.id c.args.value
    c.self.view_is c.in_default.ensures.pairs more c.fill.ensures.probed in
    (subst (λ xs. HasMore c.args.self.now (pairs_of xs) c.args.id c.args.value) (sym back) put).values

pub returns-clause-pairs : goal.returns-clause-pairs
returns-clause-pairs g c =
    let more = subst (λ xs. IsPermutation (pairs_of c.fill.new.cells) ((c.args.id, c.args.value) ∷ pairs_of xs)) c.deref_mut.ensures.value c.fill.ensures.pairs in
    let back = given_back c.fill.new.cells c.make_room.new.cells.items c.make_room.new.cells.len (omega (arith, c.fill.auto.cells, c.deref_mut.ensures.len, c.make_room.new.cells.ok)) in
    let put = put_more c.self.inside.cells.items c.make_room.new.cells.items c.fill.new.cells c.args.self.now c.make_room.new.bits c.args.id c.args.value
    c.self.view_is c.in_default.ensures.pairs more c.fill.ensures.probed in
    (subst (λ xs. HasMore c.args.self.now (pairs_of xs) c.args.id c.args.value) (sym back) put).same

pub returns-clause-len : goal.returns-clause-len
returns-clause-len g c =
    let more = subst (λ xs. IsPermutation (pairs_of c.fill.new.cells) ((c.args.id, c.args.value) ∷ pairs_of xs)) c.deref_mut.ensures.value c.fill.ensures.pairs in
    let back = given_back c.fill.new.cells c.make_room.new.cells.items c.make_room.new.cells.len (omega (arith, c.fill.auto.cells, c.deref_mut.ensures.len, c.make_room.new.cells.ok)) in
    let put = put_more c.self.inside.cells.items c.make_room.new.cells.items c.fill.new.cells c.args.self.now c.make_room.new.bits c.args.id c.args.value
    c.self.view_is c.in_default.ensures.pairs more c.fill.ensures.probed in
    (subst (λ xs. HasMore c.args.self.now (pairs_of xs) c.args.id c.args.value) (sym back) put).len

pub returns-clause-distinct : goal.returns-clause-distinct
returns-clause-distinct g c =
    let more = subst (λ xs. IsPermutation (pairs_of c.fill.new.cells) ((c.args.id, c.args.value) ∷ pairs_of xs)) c.deref_mut.ensures.value c.fill.ensures.pairs in
    let back = given_back c.fill.new.cells c.make_room.new.cells.items c.make_room.new.cells.len (omega (arith, c.fill.auto.cells, c.deref_mut.ensures.len, c.make_room.new.cells.ok)) in
    let put = put_more c.self.inside.cells.items c.make_room.new.cells.items c.fill.new.cells c.args.self.now c.make_room.new.bits c.args.id c.args.value
    c.self.view_is c.in_default.ensures.pairs more c.fill.ensures.probed in
    (subst (λ xs. HasMore c.args.self.now (pairs_of xs) c.args.id c.args.value) (sym back) put).distinct
