use Rattle.std.proofs.Common.{◌≡◌, ◌≤◌, ◌∷◌, ◌++◌, [], length, length-append, map, All, Contains, Option, Some, vec_capacity, ap, sym, subst, arith}
use Rattle.std.proofs.lemmas.List.Elements.{All-contains_itself, All-nil, All-pop, All-push}
use Rattle.pool_tests.specs.declared.tests.Slot.{Slot}
use Rattle.pool_tests.proofs.Lists.{map_has}
use Rattle.pool_tests.proofs.tests.all_ends.Goals as goal

pub loop-slot-init : goal.loop-slot-init
loop-slot-init g c =
    let IsEnd : g.row.E.Denot → Type 0 = λ e. Contains (map (λ (s : Slot g.row.P.Denot g.row.E.Denot). s.end) c.args.slots.items) (Some e) in
    let none : c.list_with_room-ends.result.items ≡ [] = c.list_with_room-ends.ensures.items in
    let room : length c.args.slots.items ≤ vec_capacity c.list_with_room-ends.result = omega (arith, c.list_with_room-ends.ensures.room, c.len.ensures) in
    record {
      slots = All-contains_itself c.args.slots.items;
      ends = subst (All IsEnd) (sym none) (All-nil IsEnd);
      count = omega (arith, ap length none);
      room = omega (arith, ap length none, room);
    }

pub loop-slot-preserved : goal.loop-slot-preserved
loop-slot-preserved g c =
    let i = c.loop-slot.invariant in
    let whole = c.args.slots.items in
    let s : Slot g.row.P.Denot g.row.E.Denot = c.in-Some.slot in
    let end : Slot g.row.P.Denot g.row.E.Denot → Option g.row.E.Denot = λ s. s.end in
    let e : g.row.E.Denot = c.end.result in
    let more = c.pop.new.self.items in
    let old = c.loop-slot.ends.items in
    let items : c.loop-slot.slots.items ≡ more ++ s ∷ [] = c.in-Some.ensures.items in
    let pushed : c.push_reserved.new.self.items ≡ old ++ e ∷ [] = c.push_reserved.ensures.items in
    let popped = All-pop (Contains whole) c.loop-slot.slots.items more (Some s) items i.slots in
    let IsEnd : g.row.E.Denot → Type 0 = λ e. Contains (map end whole) (Some e) in
    let has = subst (Contains (map end whole)) c.end.ensures (map_has end whole s popped.1) in
    record {
      slots = popped.0;
      ends = subst (All IsEnd) (sym pushed) (All-push IsEnd old e i.ends has);
      count = omega (arith, i.count, ap length items, length-append more (s ∷ []), ap length pushed, length-append old (e ∷ []));
      room = omega (arith, i.room, ap length items, length-append more (s ∷ []), ap length pushed, length-append old (e ∷ []), c.push_reserved.ensures.capacity);
    }
