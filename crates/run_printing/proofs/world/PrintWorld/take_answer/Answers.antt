use Rattle.std.proofs.Common.{ℕ, subst}
use Rattle.query_model.specs.declared.reply.Reply.{Reply}
use Rattle.run_printing.specs.Events.{Event}
use Rattle.run_printing.specs.Worlds.{PrintsEvent}
use Rattle.run_printing.proofs.Taking.{answered}
use Rattle.run_printing.proofs.world.PrintWorld.take_answer.Goals as goal

pub returns-clause-did : goal.returns-clause-did
returns-clause-did g c =
    let parts = c.into_parts-place.result in
    subst (λ (x : ℕ × ℕ × Reply). PrintsEvent g.N.RunName.asked.lines g.K.Sink.holds g.K.Sink.faults (Event.answered x.0 x.1 x.2) c.args.self.now c.print.new.self)
    c.into_parts-place.ensures.parts
    (answered g.N.RunName.asked.lines g.K.Sink.holds g.K.Sink.faults c.args.self.now c.print.new.self parts.0 parts.1 parts.2 c.into_parts-place.ensures.is_answer.at c.print.ensures.keeps c.print.ensures.waits c.print.ensures.same)
