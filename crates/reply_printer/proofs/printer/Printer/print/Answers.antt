use Rattle.std.proofs.Common.{[], ◌∷◌, arith, refl, inl, inr}
use Rattle.fan_base.specs.Outside.{shown}
use Rattle.reply_printer.specs.declared.printer.Progress.TheVariants as progress
use Rattle.reply_printer.proofs.PrintLemmas.{keeps_held, keeps_no_more}
use Rattle.reply_printer.proofs.printer.Printer.print.Goals.{in-Ok, in-Err}
use Rattle.reply_printer.proofs.printer.Printer.print.Goals as goal

pub returns-then-place-next_place-clause-keeps : goal.returns-then-place-next_place-clause-keeps
returns-then-place-next_place-clause-keeps g c =
    keeps_no_more c.args.self.now (record { orderer = c.args.self.now.orderer; progress = progress.Repeated }) ((c.args.place, (c.args.number, c.args.reply)) ∷ [])
    (shown (g.K.Sink.holds c.args.sink.now) (g.K.Sink.faults c.args.sink.now)) refl (λ place. refl) (inr refl)

pub returns-clause-keeps : goal.returns-clause-keeps
returns-clause-keeps g c = elim c.match-put.branch [
  | in-Ok w ↦ rw (w.self-is, w.sink-is) (keeps_held c.args.self.now (record { orderer = c.put.new.self; progress = c.args.self.now.progress }) w.print_next.new.self
      c.args.place c.args.number c.args.reply (shown (g.K.Sink.holds c.args.sink.now) (g.K.Sink.faults c.args.sink.now))
      (shown (g.K.Sink.holds w.print_next.new.sink) (g.K.Sink.faults w.print_next.new.sink)) (omega (arith, c.next_place.ensures, c.if-place-next_place.false)) w.in-Ok.ensures.ok refl w.print_next.ensures.keeps)
  | in-Err w ↦ rw (w.self-is, w.sink-is) (keeps_no_more c.args.self.now (record { orderer = c.put.new.self; progress = progress.Memory }) ((c.args.place, (c.args.number, c.args.reply)) ∷ [])
      (shown (g.K.Sink.holds c.args.sink.now) (g.K.Sink.faults c.args.sink.now)) w.in-Err.ensures.refused.1.next (λ place. w.in-Err.ensures.refused.1.held place) (inl refl))
]
