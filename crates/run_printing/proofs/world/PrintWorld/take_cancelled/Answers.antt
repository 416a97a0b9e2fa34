use Rattle.std.proofs.Common.{sym, subst, ℕ}
use Rattle.query_model.specs.declared.reply.Reply.TheVariants as reply
use Rattle.fan_model.specs.Places.{IsReplyAt}
use Rattle.run_printing.specs.Events.{Event}
use Rattle.run_printing.specs.Worlds.{RunsAs}
use Rattle.run_printing.proofs.Taking.{cancelled}
use Rattle.run_printing.proofs.world.PrintWorld.take_cancelled.Goals as goal

pub returns-clause-ran : goal.returns-clause-ran
returns-clause-ran g c =
    let lines = g.N.RunName.asked.lines in
    let at = subst (λ (k : ℕ). IsReplyAt lines k c.number.result reply.Cancelled) (sym c.place-place.ensures.place)
    (subst (λ (k : ℕ). IsReplyAt lines c.args.reply.place k reply.Cancelled) (sym c.number.ensures) c.place-place.ensures.is_reply) in
    subst (λ (k : ℕ). RunsAs lines g.K.Sink.holds g.K.Sink.faults (Event.cancelled k c.args.reply.number) c.args.self.now c.print.new.self) c.place-place.ensures.place
    (subst (λ (k : ℕ). RunsAs lines g.K.Sink.holds g.K.Sink.faults (Event.cancelled c.place-place.result k) c.args.self.now c.print.new.self) c.number.ensures
    (cancelled lines g.K.Sink.holds g.K.Sink.faults c.args.self.now c.print.new.self c.place-place.result c.number.result at c.print.ensures.keeps c.print.ensures.waits c.print.ensures.same))
