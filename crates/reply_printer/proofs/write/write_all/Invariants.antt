use Rattle.std.proofs.Common.{◌≡◌, ◌++◌, List, ℕ, length}
use Rattle.std.specs.Io.KnownBytes.{Appends}
use Rattle.reply_printer.proofs.write.write_all.Given as goal

abbrev pub invariant-writes : goal.invariant-writes
invariant-writes g l = record {
  front : List ℕ;
  whole : l.bytes ≡ front ++ l.rest;
  gained : Appends (g.K.Sink.holds l.initial.sink) (g.K.Sink.holds l.sink) front;
  sound : g.K.Sink.faults l.sink ≡ g.K.Sink.faults l.initial.sink;
}

abbrev pub decreases-writes : goal.decreases-writes
decreases-writes g l = length l.rest
