use Rattle.timer_slots.proofs.Calls.{left_last, left_slots, left_values, late_slots}
use Rattle.timer_slots.proofs.slots.Slots.leave.Goals as goal

pub invariant_of-self : goal.invariant_of-self
invariant_of-self c =
    left_slots c.args.spot c.self.view_is c.self.invariant c.requires.held c.slot_of-slot.ensures c.pop_last.ensures
    (left_last c.args.spot c.self.view_is c.self.invariant c.requires.held c.slot_of-slot.ensures c.place_of.ensures c.if-place_of-len.true c.len.ensures c.index.ensures)

pub returns-then-place_of-len-clause-values : goal.returns-then-place_of-len-clause-values
returns-then-place_of-len-clause-values c =
    left_values c.args.spot c.self.view_is c.self.invariant c.requires.held c.slot_of-slot.ensures c.pop_last.ensures
    (left_last c.args.spot c.self.view_is c.self.invariant c.requires.held c.slot_of-slot.ensures c.place_of.ensures c.if-place_of-len.true c.len.ensures c.index.ensures)

pub invariant_of-self-2 : goal.invariant_of-self-2
invariant_of-self-2 c = late_slots c.args.spot c.self.view_is c.self.invariant c.requires.held c.requires.room c.push.ensures
