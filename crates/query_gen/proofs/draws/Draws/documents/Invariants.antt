use Rattle.std.proofs.Common.{◌≡◌, ◌-◌, ◌≤◌, [], length}
use Rattle.query_model.specs.Generated.{draw_docs}
use Rattle.query_gen.proofs.SoFar.{IsSoFar}
use Rattle.query_gen.proofs.draws.Draws.documents.Given as goal

abbrev pub invariant-documents : goal.invariant-documents
invariant-documents l = (l.place ≤ l.count) × (length l.lines ≡ l.place) × IsSoFar draw_docs [] l.lines l.place (l.count - l.place) l.self l.count l.initial.self

abbrev pub decreases-documents : goal.decreases-documents
decreases-documents l = l.count - l.place
