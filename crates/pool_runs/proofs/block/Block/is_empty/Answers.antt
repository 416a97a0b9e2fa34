use Rattle.std.proofs.Common.{sym, ◌∙◌, eq-eqb, arith}
use Rattle.std.proofs.lemmas.Bool.{eqb-true}
use Rattle.pool_runs.proofs.Blocks.{all_taken, none_left}
use Rattle.pool_runs.proofs.block.Block.is_empty.Goals as goal

pub returns : goal.returns
returns c =
    let b = c.self.inside in
    let i = c.self.invariant in (
      λ same. sym c.self.view_is ∙ all_taken _ b.rows b.first b.end (eqb-true b.first b.end same),
      λ none. eq-eqb b.first b.end (none_left _ b.rows b.first b.end i.0 (omega (arith, i.1, i.2)) (c.self.view_is ∙ none)),
    )
