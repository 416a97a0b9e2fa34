use Rattle.std.proofs.Common.{get_or, sym, ap, ◌∙◌, arith}
use Rattle.std.proofs.lemmas.Option.{get_or_from_slice_get}
use Rattle.timer_slots.specs.Seen.{SlotsSeen}
use Rattle.timer_slots.proofs.Calls.{tail_is, waits_id, waits_low, waits_some}
use Rattle.timer_slots.proofs.slots.Slots.move_to_waiting.Goals as goal

pub index-requires : goal.index-requires
index-requires c = omega (arith, waits_low c.args.place c.self.invariant c.at-to.ensures c.slot_of-slot.ensures, c.self.invariant.room)

pub overflow_sub-last : goal.overflow_sub-last
overflow_sub-last c = waits_some c.args.place c.self.invariant c.at-to.ensures c.slot_of-slot.ensures c.index.ensures c.as_slice-ids.ensures

pub spot_of-from-requires-clause-slot : goal.spot_of-from-requires-clause-slot
spot_of-from-requires-clause-slot c = waits_low c.args.place c.self.invariant c.at-to.ensures c.slot_of-slot.ensures

pub bounds-ids-last : goal.bounds-ids-last
bounds-ids-last c =
    let some = waits_some c.args.place c.self.invariant c.at-to.ensures c.slot_of-slot.ensures c.index.ensures c.as_slice-ids.ensures in
    omega (arith, some)

pub returns-clause-from : goal.returns-clause-from
returns-clause-from c =
    tail_is c.self.inside.lists.items c.self.inside.late c.args.self.now c.args.place c.at-to.result c.slot_of-slot.result c.spot_of-from.result c.index.result.now c.as_slice-ids.result.now
    c.self.view_is c.self.invariant.room (waits_low c.args.place c.self.invariant c.at-to.ensures c.slot_of-slot.ensures) c.at-to.ensures c.slot_of-slot.ensures c.index.ensures c.as_slice-ids.ensures
    c.spot_of-from.ensures.spot

pub returns-clause-to : goal.returns-clause-to
returns-clause-to c =
    sym (get_or_from_slice_get c.self.inside.late c.args.place c.at-to.result 0 c.at-to.ensures) ∙ ap (λ (n : SlotsSeen). get_or n.late c.args.place 0) c.self.view_is

pub returns-clause-id : goal.returns-clause-id
returns-clause-id c =
    waits_id c.args.place c.self.invariant c.at-to.ensures c.slot_of-slot.ensures c.index.ensures c.as_slice-ids.ensures c.self.view_is
    c.spot_of-from.result c.spot_of-from.ensures.slot c.spot_of-from.ensures.place
