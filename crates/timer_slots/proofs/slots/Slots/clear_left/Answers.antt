use Rattle.std.proofs.Common.{refl}
use Rattle.std.proofs.lemmas.Option.{slice_get_within}
use Rattle.timer_slots.proofs.Clearing.{clears, cleared_slots, cleared_values, same_less, other_less, other_size, left_waits}
use Rattle.timer_slots.proofs.slots.Slots.clear_left.Goals as goal

pub invariant_of-self : goal.invariant_of-self
invariant_of-self c =
    let k = clears c.self.invariant c.pop-to.ensures c.slot_of-slot.ensures
    c.pop_last.ensures c.spot_of-from.ensures.slot c.spot_of-from.ensures.place c.len.ensures c.index.ensures in
    cleared_slots k c.pop-to.new.self refl (same_less k c.if-from-to.true)

pub returns-then-from-to-clause-same : goal.returns-then-from-to-clause-same
returns-then-from-to-clause-same c =
    let k = clears c.self.invariant c.pop-to.ensures c.slot_of-slot.ensures
    c.pop_last.ensures c.spot_of-from.ensures.slot c.spot_of-from.ensures.place c.len.ensures c.index.ensures in
    cleared_values k c.pop-to.new.self refl (same_less k c.if-from-to.true) c.self.view_is

pub unreachable-requires : goal.unreachable-requires
unreachable-requires c =
    let k = clears c.self.invariant c.pop-to.ensures c.slot_of-slot.ensures
    c.pop_last.ensures c.spot_of-from.ensures.slot c.spot_of-from.ensures.place c.len.ensures c.index.ensures in
    left_waits k c.self.view_is c.requires.left c.if-from-to.false c.in_default.ensures.none

pub set-requires : goal.set-requires
set-requires c = slice_get_within c.pop-to.new.self c.in-Some.place c.spot_of-from.result c.in-Some.ensures.some

pub invariant_of-self-2 : goal.invariant_of-self-2
invariant_of-self-2 c =
    let k = clears c.self.invariant c.pop-to.ensures c.slot_of-slot.ensures
    c.pop_last.ensures c.spot_of-from.ensures.slot c.spot_of-from.ensures.place c.len.ensures c.index.ensures in
    cleared_slots k c.set.new.self (other_size k c.in-Some.place c.set.ensures) (other_less k c.in-Some.place c.in-Some.ensures.some c.set.ensures)

pub returns-clause-same : goal.returns-clause-same
returns-clause-same c =
    let k = clears c.self.invariant c.pop-to.ensures c.slot_of-slot.ensures
    c.pop_last.ensures c.spot_of-from.ensures.slot c.spot_of-from.ensures.place c.len.ensures c.index.ensures in
    cleared_values k c.set.new.self (other_size k c.in-Some.place c.set.ensures) (other_less k c.in-Some.place c.in-Some.ensures.some c.set.ensures) c.self.view_is
