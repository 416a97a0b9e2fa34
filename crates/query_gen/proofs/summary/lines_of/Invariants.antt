use Rattle.std.proofs.Common.{◌≡◌, ◌≤◌, ◌+◌, ◌-◌, ◌==◌, drop, length}
use Rattle.std.specs.List.{count_by}
use Rattle.query_model.specs.Pieces.{line_feed}
use Rattle.query_gen.proofs.summary.lines_of.Given as goal

abbrev pub invariant-parts : goal.invariant-parts
invariant-parts l = record {
  within : l.at ≤ length l.bytes;
  few : l.lines ≤ l.at;
  so_far : l.lines + count_by (λ byte. byte == line_feed) (drop l.at l.bytes) ≡ count_by (λ byte. byte == line_feed) l.bytes;
}

abbrev pub decreases-parts : goal.decreases-parts
decreases-parts l = length l.bytes - l.at
