use Rattle.std.proofs.Common.{◌-◌, ◌≤◌}
use Rattle.query_model.specs.Generated.{draw_queries}
use Rattle.query_gen.proofs.SoFar.{IsSoFar}
use Rattle.query_gen.proofs.draws.Draws.queries.Given as goal

abbrev pub invariant-queries : goal.invariant-queries
invariant-queries l = (l.place ≤ l.count) × IsSoFar draw_queries l.initial.lines l.lines l.place (l.count - l.place) l.self l.count l.initial.self

abbrev pub decreases-queries : goal.decreases-queries
decreases-queries l = l.count - l.place
