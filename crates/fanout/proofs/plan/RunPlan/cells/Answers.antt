use Rattle.std.proofs.Common.{ℕ, max, min, ap, ◌∙◌}
use Rattle.fanout.proofs.Cells.{cells_are}
use Rattle.fanout.proofs.plan.RunPlan.cells.Goals as goal

pub returns-clause-number : goal.returns-clause-number
returns-clause-number g c =
    c.clamp.ensures ∙ (ap (λ (n : ℕ). max 1 (min n 1024)) c.saturating_mul-tasks.ensures
    ∙ cells_are g.N.RunName.asked _ _ c.requires.counts.answered c.all.ensures.are.as_many)
