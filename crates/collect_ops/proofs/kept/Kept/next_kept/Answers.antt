use Rattle.std.proofs.Common.{ap, sym, ◌∙◌}
use Rattle.collect_ops.proofs.Closing.{none_exactly, none_left}
use Rattle.collect_ops.proofs.kept.Kept.next_kept.Goals as goal

pub returns-clause-none : goal.returns-clause-none
returns-clause-none g c =
    none_exactly _ _ _ (sym (ap (λ k. k.outcomes) c.self.view_is) ∙ c.next_outcome-outcome.ensures.outcome) (λ none. none_left _ _ _ (c.next_outcome-outcome.ensures.none none))
