use Rattle.std.proofs.Common.{◌≡◌, ◌≤◌, ◌==◌, take}
use Rattle.std.specs.List.{count_by}
use Rattle.query_model.specs.Pieces.{line_feed}
use Rattle.query_gen.proofs.summary.lines_in.Given as goal

abbrev pub invariant-loop-byte : goal.invariant-loop-byte
invariant-loop-byte l = (l.lines ≡ count_by (λ byte. byte == line_feed) (take l.byte-index l.part)) × (l.lines ≤ l.byte-index)
