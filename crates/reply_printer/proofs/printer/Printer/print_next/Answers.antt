use Rattle.std.proofs.Common.{refl, sym}
use Rattle.fan_base.specs.Outside.{shown}
use Rattle.query_model.specs.Output.{reply_text}
use Rattle.reply_printer.proofs.PrintLemmas.{keeps_next, keeps_still, silent_still, was_repeated}
use Rattle.reply_printer.proofs.printer.Printer.print_next.Goals as goal

pub lines-preserved-in-Some : goal.lines-preserved-in-Some
lines-preserved-in-Some g c =
    let old = shown (g.K.Sink.holds c.lines.sink) (g.K.Sink.faults c.lines.sink) in
    let new = shown (g.K.Sink.holds c.print_line-self.new.sink) (g.K.Sink.faults c.print_line-self.new.sink) in
    let line = reply_text c.in-Some.number c.in-Some.reply in
    record {
      keeps =
          keeps_next c.args.self.now c.lines.self (record { orderer = c.next.new.self; progress = c.print_line-self.result }) (c.in-Some.number, c.in-Some.reply)
          (shown (g.K.Sink.holds c.args.sink.now) (g.K.Sink.faults c.args.sink.now)) old new
          c.lines.invariant.keeps (sym c.in-Some.ensures.reply) c.in-Some.ensures.takes c.in-Some.ensures.goes c.print_line-self.ensures.line;
      silent = silent_still line old new c.args.self.now.progress c.lines.self.progress c.print_line-self.result c.args.sink.now c.lines.sink c.print_line-self.new.sink
          c.print_line-self.ensures.line c.print_line-self.ensures.silent c.lines.invariant.silent;
      repeated = λ e. c.lines.invariant.repeated (was_repeated line old new c.lines.self.progress c.print_line-self.result c.print_line-self.ensures.line e);
    }

pub lines-preserved-in-Some-2 : goal.lines-preserved-in-Some-2
lines-preserved-in-Some-2 g c =
    let old = shown (g.K.Sink.holds c.lines.sink) (g.K.Sink.faults c.lines.sink) in
    let new = shown (g.K.Sink.holds c.print_line-self.new.sink) (g.K.Sink.faults c.print_line-self.new.sink) in
    let line = reply_text c.in-Some.number c.in-Some.reply in
    record {
      keeps =
          keeps_next c.args.self.now c.lines.self (record { orderer = c.next.new.self; progress = c.print_line-self.result }) (c.in-Some.number, c.in-Some.reply)
          (shown (g.K.Sink.holds c.args.sink.now) (g.K.Sink.faults c.args.sink.now)) old new
          c.lines.invariant.keeps (sym c.in-Some.ensures.reply) c.in-Some.ensures.takes c.in-Some.ensures.goes c.print_line-self.ensures.line;
      silent = silent_still line old new c.args.self.now.progress c.lines.self.progress c.print_line-self.result c.args.sink.now c.lines.sink c.print_line-self.new.sink
          c.print_line-self.ensures.line c.print_line-self.ensures.silent c.lines.invariant.silent;
      repeated = λ e. c.lines.invariant.repeated (was_repeated line old new c.lines.self.progress c.print_line-self.result c.print_line-self.ensures.line e);
    }

pub lines-preserved : goal.lines-preserved
lines-preserved g c =
    let old = shown (g.K.Sink.holds c.lines.sink) (g.K.Sink.faults c.lines.sink) in
    let new = shown (g.K.Sink.holds c.print_line-self.new.sink) (g.K.Sink.faults c.print_line-self.new.sink) in
    let line = reply_text c.in-Some.number c.in-Some.reply in
    record {
      keeps =
          keeps_next c.args.self.now c.lines.self (record { orderer = c.next.new.self; progress = c.print_line-self.result }) (c.in-Some.number, c.in-Some.reply)
          (shown (g.K.Sink.holds c.args.sink.now) (g.K.Sink.faults c.args.sink.now)) old new
          c.lines.invariant.keeps (sym c.in-Some.ensures.reply) c.in-Some.ensures.takes c.in-Some.ensures.goes c.print_line-self.ensures.line;
      silent = silent_still line old new c.args.self.now.progress c.lines.self.progress c.print_line-self.result c.args.sink.now c.lines.sink c.print_line-self.new.sink
          c.print_line-self.ensures.line c.print_line-self.ensures.silent c.lines.invariant.silent;
      repeated = λ e. c.lines.invariant.repeated (was_repeated line old new c.lines.self.progress c.print_line-self.result c.print_line-self.ensures.line e);
    }

pub returns-clause-keeps : goal.returns-clause-keeps
returns-clause-keeps g c =
    keeps_still c.args.self.now c.lines.self (record { orderer = c.next.new.self; progress = c.lines.self.progress }) (shown (g.K.Sink.holds c.args.sink.now) (g.K.Sink.faults c.args.sink.now)) (shown (g.K.Sink.holds c.lines.sink) (g.K.Sink.faults c.lines.sink))
    c.lines.invariant.keeps c.in_default.ensures.stays refl
