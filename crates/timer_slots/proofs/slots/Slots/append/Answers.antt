use Rattle.timer_slots.proofs.Calls.{puts, put_slots}
use Rattle.timer_slots.proofs.slots.Slots.append.Goals as goal

pub invariant_of-self-2 : goal.invariant_of-self-2
invariant_of-self-2 c = put_slots c.self.invariant c.requires c.in_ok-spot.ensures.ok

pub returns-clause-ok : goal.returns-clause-ok
returns-clause-ok c = puts c.self.view_is c.self.invariant c.requires c.in_ok-spot.ensures.ok
