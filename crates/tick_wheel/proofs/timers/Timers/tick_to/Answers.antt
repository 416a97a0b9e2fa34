use Rattle.std.proofs.Common.{subst, sym, arith}
use Rattle.tick_wheel.specs.Kept.{IsKept}
use Rattle.tick_wheel.specs.Table.{Index}
use Rattle.tick_wheel.proofs.Keeping.{kept_settled}
use Rattle.tick_wheel.proofs.Seen.{seen_bound, seen_settled, seen_still, seen_tick, on_err, fired_bound}
use Rattle.tick_wheel.proofs.Views.{timers_same}
use Rattle.tick_wheel.proofs.timers.Timers.tick_to.Goals as goal

pub returns-in_err-settle-clause-steps : goal.returns-in_err-settle-clause-steps
returns-in_err-settle-clause-steps g c =
    seen_bound _ c.self.inside.book c.args.self.now _ _ c.self.view_is (omega (arith, c.settle.ensures.steps))

pub returns-in_err-settle-clause-refused : goal.returns-in_err-settle-clause-refused
returns-in_err-settle-clause-refused g c = on_err _ _ (seen_settled _ c.self.inside.book c.settle.new.book c.args.self.now c.self.invariant.apart c.settle.ensures.apart c.settle.ensures.same.same c.self.view_is)

pub invariant_of-self : goal.invariant_of-self
invariant_of-self g c = kept_settled _ _ c.self.inside.book c.settle.new.book c.self.invariant c.settle.ensures.apart c.settle.ensures.ahead c.settle.ensures.same

pub invariant_of-self-in_err-fire_slot : goal.invariant_of-self-in_err-fire_slot
invariant_of-self-in_err-fire_slot g c =
    subst (λ (index : Index g.row.T.Denot). IsKept c.self.inside.ticks c.self.inside.next index) (sym c.in_err-fire_slot.ensures.refused)
    (kept_settled _ _ c.self.inside.book c.settle.new.book c.self.invariant c.settle.ensures.apart c.settle.ensures.ahead c.settle.ensures.same)

pub returns-in_err-fire_slot-clause-refused : goal.returns-in_err-fire_slot-clause-refused
returns-in_err-fire_slot-clause-refused g c = on_err _ _
    (seen_still _ c.self.inside.book c.settle.new.book c.fire_slot.new.book c.args.self.now c.self.invariant.apart c.settle.ensures.apart c.settle.ensures.same.same c.self.view_is
    c.in_err-fire_slot.ensures.refused)

pub returns-in_err-fire_slot-clause-steps : goal.returns-in_err-fire_slot-clause-steps
returns-in_err-fire_slot-clause-steps g c =
    seen_bound _ c.self.inside.book c.args.self.now _ _ c.self.view_is (omega (arith, c.settle.ensures.steps, c.in_err-fire_slot.ensures.still))

pub returns-clause-steps : goal.returns-clause-steps
returns-clause-steps g c =
    let same = timers_same c.self.inside.book c.settle.new.book c.self.invariant.apart c.settle.ensures.apart c.settle.ensures.same.same in
    let f = c.in_ok-fire_slot.ensures.ok in
    seen_bound _ c.self.inside.book c.args.self.now _ _ c.self.view_is
    (fired_bound _ _ _ _ _ _ c.fire_slot.new.fired.items same f.fired_is c.settle.ensures.steps f.counted)

pub returns-clause-ok : goal.returns-clause-ok
returns-clause-ok g c =
    let same = timers_same c.self.inside.book c.settle.new.book c.self.invariant.apart c.settle.ensures.apart c.settle.ensures.same.same in
    let f = c.in_ok-fire_slot.ensures.ok in
    seen_tick _ _ c.self.inside.book c.settle.new.book c.fire_slot.new.book c.args.self.now c.fire_slot.new.fired.items c.self.view_is same f.fired_is f.rest
