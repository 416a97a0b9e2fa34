use Rattle.timer_slots.proofs.Clearing.{moves, moves_last, moves_slots}
use Rattle.timer_slots.proofs.slots.Slots.move_last.Goals as goal

pub invariant_of-self-2 : goal.invariant_of-self-2
invariant_of-self-2 c =
    moves_slots c.self.view_is c.self.invariant c.requires.late c.requires.last c.slot_of-from.ensures c.requires.slot c.if-from-to.false c.in_ok-spot.ensures.ok
    c.pop_last.ensures

pub returns-clause-ok : goal.returns-clause-ok
returns-clause-ok c =
    moves c.self.view_is c.self.invariant c.requires.late c.requires.last c.slot_of-from.ensures c.requires.slot c.if-from-to.false c.in_ok-spot.ensures.ok
    c.pop_last.ensures

pub returns-clause-last : goal.returns-clause-last
returns-clause-last c =
    moves_last c.self.view_is c.self.invariant c.requires.late c.requires.last c.slot_of-from.ensures c.requires.slot c.if-from-to.false c.in_ok-spot.ensures.ok
    c.pop_last.ensures
