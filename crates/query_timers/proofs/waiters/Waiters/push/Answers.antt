use Rattle.std.proofs.Common.{◌≡◌, ◌+◌, [], ◌∷◌, ◌++◌, Some, length, sym, ap, ◌∙◌, arith, length-append}
use Rattle.query_timers.specs.declared.query.DelayedQuery.{DelayedQuery}
use Rattle.query_timers.specs.Numbered.{waiting_in}
use Rattle.query_timers.specs.Seen.{WaitersSeen}
use Rattle.query_timers.proofs.Numbers.{fewer_wait, one_waits, seen_waits}
use Rattle.query_timers.proofs.waiters.Waiters.push.Goals as goal

pub make_room-requires : goal.make_room-requires
make_room-requires c = omega (arith, c.self.invariant.1, fewer_wait c.self.inside.by_number.items)

pub invariant_of-self : goal.invariant_of-self
invariant_of-self c =
    let query = c.args.query in
    let slots = c.self.inside.by_number.items in
    let items : c.push_reserved.new.self.items ≡ slots ++ Some query ∷ [] =
    c.push_reserved.ensures.items ∙ (ap (λ l. l ++ Some c.wait.result ∷ []) c.in-Ok.ensures.same.0 ∙ ap (λ (q : DelayedQuery). slots ++ Some q ∷ []) c.wait.ensures) in
    let number : query.number ≡ length slots + 1 = c.requires ∙ ap (λ (w : WaitersSeen). w.asked + 1) (sym c.self.view_is) in
    let made = one_waits slots c.push_reserved.new.self.items query items c.self.invariant.0 number in
    (made.0, omega (arith, ap length made.1, length-append (waiting_in slots) (query ∷ []), c.self.invariant.1), omega (arith, c.in-Ok.ensures.more))

pub returns-in-Ok-clause-ok : goal.returns-in-Ok-clause-ok
returns-in-Ok-clause-ok c =
    let query = c.args.query in
    let slots = c.self.inside.by_number.items in
    let items : c.push_reserved.new.self.items ≡ slots ++ Some query ∷ [] =
    c.push_reserved.ensures.items ∙ (ap (λ l. l ++ Some c.wait.result ∷ []) c.in-Ok.ensures.same.0 ∙ ap (λ (q : DelayedQuery). slots ++ Some q ∷ []) c.wait.ensures) in
    let number : query.number ≡ length slots + 1 = c.requires ∙ ap (λ (w : WaitersSeen). w.asked + 1) (sym c.self.view_is) in
    let made = one_waits slots c.push_reserved.new.self.items query items c.self.invariant.0 number in
    seen_waits slots c.push_reserved.new.self.items query c.self.inside.fired.items c.make_room.new.fired.items c.args.self.now c.self.view_is c.in-Ok.ensures.same.1 made.1 made.2
