use Rattle.std.proofs.Common.{◌≡◌, ◌≤◌, ◌∷◌, ◌++◌, [], length, length-append, All, Contains, IfSome, Option, Some, None, vec_capacity, ap, sym, subst, arith}
use Rattle.std.proofs.lemmas.List.Elements.{All-contains_itself, All-nil, All-pop, All-push}
use Rattle.pool_tests.specs.declared.tests.Slot.{Slot}
use Rattle.pool_tests.proofs.tests.new_slots.Goals as goal

pub loop-pass-init : goal.loop-pass-init
loop-pass-init g c =
    let HasPass : Slot g.row.P.Denot g.row.E.Denot → Type 0 = λ s. IfSome s.pass (Contains c.args.passes.items) in
    let HasNoEnd : Slot g.row.P.Denot g.row.E.Denot → Type 0 = λ s. s.end ≡ None in
    let none : c.list_with_room-slots.result.items ≡ [] = c.list_with_room-slots.ensures.items in
    let room : length c.args.passes.items ≤ vec_capacity c.list_with_room-slots.result = omega (arith, c.list_with_room-slots.ensures.room, c.len.ensures) in
    record {
      passes = All-contains_itself c.args.passes.items;
      slots = subst (All HasPass) (sym none) (All-nil HasPass);
      ends = subst (All HasNoEnd) (sym none) (All-nil HasNoEnd);
      count = omega (arith, ap length none);
      room = omega (arith, ap length none, room);
    }

pub loop-pass-preserved : goal.loop-pass-preserved
loop-pass-preserved g c =
    let i = c.loop-pass.invariant in
    let whole = c.args.passes.items in
    let HasPass : Slot g.row.P.Denot g.row.E.Denot → Type 0 = λ s. IfSome s.pass (Contains whole) in
    let HasNoEnd : Slot g.row.P.Denot g.row.E.Denot → Type 0 = λ s. s.end ≡ None in
    let p : g.row.P.Denot = c.in-Some.pass in
    let s : Slot g.row.P.Denot g.row.E.Denot = c.new_slot.result in
    let more = c.pop.new.self.items in
    let old = c.loop-pass.slots.items in
    let items : c.loop-pass.passes.items ≡ more ++ p ∷ [] = c.in-Some.ensures.items in
    let pushed : c.push_reserved.new.self.items ≡ old ++ s ∷ [] = c.push_reserved.ensures.items in
    let popped = All-pop (Contains whole) c.loop-pass.passes.items more (Some p) items i.passes in
    let has = subst (λ (o : Option g.row.P.Denot). IfSome o (Contains whole)) (sym c.new_slot.ensures.0) popped.1 in
    record {
      passes = popped.0;
      slots = subst (All HasPass) (sym pushed) (All-push HasPass old s i.slots has);
      ends = subst (All HasNoEnd) (sym pushed) (All-push HasNoEnd old s i.ends c.new_slot.ensures.1);
      count = omega (arith, i.count, ap length items, length-append more (p ∷ []), ap length pushed, length-append old (s ∷ []));
      room = omega (arith, i.room, ap length items, length-append more (p ∷ []), ap length pushed, length-append old (s ∷ []), c.push_reserved.ensures.capacity);
    }
