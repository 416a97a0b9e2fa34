use Rattle.std.specs.Prelude.{Option, IsSome}
use Rattle.std.proofs.lemmas.List.Elements.{All-rest}
use Rattle.queue_packets.proofs.packet.Packets.pop_front.Goals as goal

pub invariant_of-self-2 : goal.invariant_of-self-2
invariant_of-self-2 g c = All-rest (λ (item : Option g.row.X.Denot). IsSome item) _ _ _ c.in_ok-block.ensures c.self.invariant
