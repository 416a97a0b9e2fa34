use Rattle.core_interrupt.proofs.Slots.{armed_stands}
use Rattle.core_interrupt.proofs.hearer.Armed.end.Goals as goal

pub end_armed-handler-requires-clause-armed : goal.end_armed-handler-requires-clause-armed
end_armed-handler-requires-clause-armed g c =
    let a = armed_stands _ c.self.invariant.2 c.self.invariant.3 in
    (a.0, a.1, record { of_home = c.self.invariant.1; stands = a.2 })
