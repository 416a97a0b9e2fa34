use Rattle.std.proofs.Common.{◌≡◌}
use Rattle.std.specs.Bool.{OnTrue}
use Rattle.run_ending.proofs.notes.list_notes.Given as goal

abbrev pub invariant-loop-note : goal.invariant-loop-note
invariant-loop-note l = OnTrue l.listed (l.notes ≡ l.yielded)
