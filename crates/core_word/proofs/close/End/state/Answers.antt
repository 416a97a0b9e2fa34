use Rattle.std.proofs.Common.{ap, ◌∙◌}
use Rattle.core_word.specs.Ends.{SeenEnd}
use Rattle.core_word.proofs.Ending.{has_state, reads_state}
use Rattle.core_word.proofs.close.End.state.Goals as goal

pub unreachable-requires : goal.unreachable-requires
unreachable-requires g c =
    let s = has_state _ _ c.self.invariant.final _ c.word.ensures in
    let e = c.in_default.ensures.inverse s.0 s.1 in cc

pub returns : goal.returns
returns g c = reads_state _ _ _ c.word.ensures c.in-Some.ensures.code ∙ ap (λ (e : SeenEnd _ _ _). e.state) c.self.view_is
