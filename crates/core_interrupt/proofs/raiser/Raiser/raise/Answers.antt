use Rattle.std.proofs.Common.{[], ◌∷◌, ◌++◌, ap, ◌∙◌}
use Rattle.core_interrupt.specs.Views.{raised_in}
use Rattle.core_interrupt.specs.Steps.{Standing}
use Rattle.core_interrupt.specs.Seen.{RaiserSeen}
use Rattle.core_interrupt.proofs.raiser.Raiser.raise.Goals as goal

pub returns-clause-raises : goal.returns-clause-raises
returns-clause-raises g c =
    let told = c.raise_at.ensures in
    record { this = told.0; answers = told.1; behind = ap (λ (m : Standing _ _). raised_in m.0) told.2.stands ∙ ap (λ (s : RaiserSeen _ _). s.raised ++ told.0 ∷ []) c.self.view_is }
