use Rattle.std.proofs.Common.{take}
use Rattle.query_expr.specs.Readers.{reading_of}
use Rattle.query_expr.proofs.Fronts.{Reached}
use Rattle.query_expr.proofs.parsing.read_all.Given as goal

abbrev pub invariant-loop-place : goal.invariant-loop-place
invariant-loop-place l = Reached (reading_of l.reader) (take l.place l.tokens)
