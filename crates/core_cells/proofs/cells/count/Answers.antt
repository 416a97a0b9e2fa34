use Rattle.std.proofs.Common.{ap, ◌∙◌}
use Rattle.core_cells.specs.declared.view.View.{View}
use Rattle.core_cells.proofs.Free.{counts_pass}
use Rattle.core_cells.proofs.cells.count.Goals as goal

pub another-requires-clause-queue : goal.another-requires-clause-queue
another-requires-clause-queue g c = c.loop.invariant.0

pub another-requires-clause-rule : goal.another-requires-clause-rule
another-requires-clause-rule g c =
    let known = c.loop.invariant.1 in
    counts_pass _ _ (ap (λ (v : View). v.made) known ∙ c.requires.pass.1) (ap (λ (v : View). v.held) known ∙ c.requires.pass.2)
