use Rattle.std.proofs.Common.{ap, arith}
use Rattle.core_cells.specs.declared.view.View.{View}
use Rattle.core_cells.proofs.Free.{makes_pass}
use Rattle.core_cells.proofs.cells.passes_of.Goals as goal

pub another-another-requires-clause-queue : goal.another-another-requires-clause-queue
another-another-requires-clause-queue g c = c.loop.invariant.0

pub another-another-requires-clause-rule : goal.another-another-requires-clause-rule
another-another-requires-clause-rule g c =
    let made = ap (λ (v : View). v.made) c.loop.invariant.2 in
    let passes = ap (λ (v : View). v.passes) c.loop.invariant.2 in
    makes_pass _ _ (λ z. absurd (omega (arith, made, z))) (omega (arith, made, passes, c.requires.pass.2, c.loop-test.true))
