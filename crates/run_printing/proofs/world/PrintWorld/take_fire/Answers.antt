use Rattle.std.proofs.Common.{subst, ap, ◌∙◌}
use Rattle.fan_base.specs.declared.outcome.Try.{Try}
use Rattle.fan_parts.specs.Seen.{PlacedSeen}
use Rattle.run_printing.specs.Events.{event_of}
use Rattle.run_printing.specs.Worlds.{RunsAs}
use Rattle.run_printing.proofs.Taking.{event_of_fired, fired}
use Rattle.run_printing.proofs.world.PrintWorld.take_fire.Goals as goal

pub returns-clause-ran : goal.returns-clause-ran
returns-clause-ran g c =
    let outcome = c.unpack-outcome.result.1 in
    let did = c.take_outcome.ensures.did in
    subst (λ (o : Try PlacedSeen). RunsAs g.N.RunName.asked.lines g.K.Sink.holds g.K.Sink.faults (event_of o) c.args.self.now c.take_outcome.new.self)
    (ap (λ x. x.1) c.unpack-outcome.ensures.parts)
    (fired g.N.RunName.asked.lines g.K.Sink.holds g.K.Sink.faults c.args.self.now c.take_outcome.new.self (event_of outcome) c.take_outcome.ensures.is_of (event_of_fired outcome)
    (record { prints = did.prints; waits = did.waits; missed = did.missed; same = record { printer = did.same.printer; sink = did.same.sink; tally = did.same.tally } })
    (c.take_outcome.ensures.tally ∙ c.unpack-outcome.ensures.tally))
