use Rattle.std.proofs.Common.{◌≡◌, ◌≢◌, [], length}
use Rattle.fan_base.specs.Outside.{shown}
use Rattle.reply_order.specs.Orders.{held_of}
use Rattle.reply_printer.specs.declared.printer.Progress.TheVariants as progress
use Rattle.reply_printer.specs.Printing.{KeepsPrinting}
use Rattle.reply_printer.proofs.printer.Printer.print_next.Given as goal

abbrev pub invariant-lines : goal.invariant-lines
invariant-lines g l = record {
  keeps : KeepsPrinting [] l.initial.self l.self (shown (g.K.Sink.holds l.initial.sink) (g.K.Sink.faults l.initial.sink)) (shown (g.K.Sink.holds l.sink) (g.K.Sink.faults l.sink));
  silent : l.initial.self.progress ≢ progress.Writing → (l.self.progress ≡ l.initial.self.progress) × (l.sink ≡ l.initial.sink);
  repeated : l.self.progress ≡ progress.Repeated → l.initial.self.progress ≡ progress.Repeated;
}

abbrev pub decreases-lines : goal.decreases-lines
decreases-lines g l = length (held_of l.self.orderer)
