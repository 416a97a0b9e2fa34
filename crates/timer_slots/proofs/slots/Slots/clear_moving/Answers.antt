use Rattle.std.proofs.Common.{◌<◌, length, sym, subst}
use Rattle.timer_slots.specs.Seen.{list_of}
use Rattle.timer_slots.proofs.Clearing.{clears_tail, moved_next, moved_slots, next_apart, place_low, tail_apart, tail_free}
use Rattle.timer_slots.proofs.slots.Slots.clear_moving.Goals as goal

pub set_id-requires-clause-place : goal.set_id-requires-clause-place
set_id-requires-clause-place c =
    let k = clears_tail c.self.invariant c.pop-to.ensures c.slot_of-slot.ensures c.pop_last-id.ensures in
    subst (λ n. n < length (list_of c.pop_last-id.new.lists.items c.slot_of-slot.result)) (sym c.place_of.ensures)
    (place_low k (tail_apart k c.self.view_is c.requires.held) (tail_free k c.self.view_is c.requires.held))

pub invariant_of-self : goal.invariant_of-self
invariant_of-self c =
    let k = clears_tail c.self.invariant c.pop-to.ensures c.slot_of-slot.ensures c.pop_last-id.ensures in
    moved_slots k (tail_apart k c.self.view_is c.requires.held) (tail_free k c.self.view_is c.requires.held) c.place_of.ensures c.set_id.ensures

pub returns-clause-moves : goal.returns-clause-moves
returns-clause-moves c =
    let k = clears_tail c.self.invariant c.pop-to.ensures c.slot_of-slot.ensures c.pop_last-id.ensures in
    moved_next k (tail_apart k c.self.view_is c.requires.held) (tail_free k c.self.view_is c.requires.held) c.place_of.ensures c.set_id.ensures c.self.view_is

pub returns-clause-apart : goal.returns-clause-apart
returns-clause-apart c =
    let k = clears_tail c.self.invariant c.pop-to.ensures c.slot_of-slot.ensures c.pop_last-id.ensures in
    next_apart k c.self.view_is c.requires.held
