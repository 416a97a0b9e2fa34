use Rattle.std.proofs.Common.{refl}
use Rattle.query_text.proofs.TrackLemmas.{Tracks-ticks}
use Rattle.query_text.proofs.so_far.SoFar.with_ticks.Goals as goal

pub invariant_of-result : goal.invariant_of-result
invariant_of-result c = Tracks-ticks c.self.inside _ c.args.more c.self.invariant c.in_ok-lines.ensures refl refl refl refl
