use Rattle.std.proofs.Common.{arith}
use Rattle.timer_slots.proofs.Calls.{left_slots, left_values, late_slots}
use Rattle.timer_slots.proofs.slots.Slots.leave_from.Goals as goal

pub pop_last-requires-clause-some : goal.pop_last-requires-clause-some
pop_last-requires-clause-some c = let place = c.is_last.ensures.place c.if-is_last.true in omega (arith, place)

pub invariant_of-self : goal.invariant_of-self
invariant_of-self c =
    left_slots c.args.spot c.self.view_is c.self.invariant c.requires.held (c.is_last.ensures.slot c.if-is_last.true) c.pop_last.ensures (c.is_last.ensures.place c.if-is_last.true)

pub returns-then-is_last-clause-values : goal.returns-then-is_last-clause-values
returns-then-is_last-clause-values c =
    left_values c.args.spot c.self.view_is c.self.invariant c.requires.held (c.is_last.ensures.slot c.if-is_last.true) c.pop_last.ensures (c.is_last.ensures.place c.if-is_last.true)

pub invariant_of-self-2 : goal.invariant_of-self-2
invariant_of-self-2 c = late_slots c.args.spot c.self.view_is c.self.invariant c.requires.held c.requires.room c.push.ensures
