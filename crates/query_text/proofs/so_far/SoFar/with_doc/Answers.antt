use Rattle.std.proofs.Common.{refl}
use Rattle.query_text.proofs.TrackLemmas.{Tracks-doc}
use Rattle.query_text.proofs.so_far.SoFar.with_doc.Goals as goal

pub invariant_of-result : goal.invariant_of-result
invariant_of-result c = Tracks-doc c.self.inside _ c.args.doc c.self.invariant c.in_ok-lines.ensures c.in_ok-put.ensures.ok c.in_ok-put.ensures.above refl refl refl
