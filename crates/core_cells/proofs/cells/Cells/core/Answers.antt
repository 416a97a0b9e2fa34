use Rattle.std.proofs.Common.{refl}
use Rattle.core_cells.proofs.Free.{takes_key, learns, one_stands, were_free_as}
use Rattle.core_cells.proofs.cells.Cells.core.Goals as goal

pub pop_as-requires-clause-rule : goal.pop_as-requires-clause-rule
pop_as-requires-clause-rule g c =
    let acts = one_stands _ c.pass.invariant.2 in
    (takes_key _ _ c.pass.invariant.1 acts, learns _ _ acts)

pub returns-in_default-clause-empty : goal.returns-in_default-clause-empty
returns-in_default-clause-empty g c = were_free_as _ _ _ _ _ refl c.pass.invariant.1 c.pass.invariant.2 c.pass.view_is c.in_default.ensures.rule.1
