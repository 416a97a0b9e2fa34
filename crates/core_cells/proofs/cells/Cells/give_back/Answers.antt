use Rattle.std.proofs.Common.{ap, ◌∙◌}
use Rattle.core_cells.specs.Seen.{SeenCells}
use Rattle.core_cells.proofs.Free.{puts_key, learns, one_stands, same_pass, were_free_as}
use Rattle.core_cells.proofs.cells.Cells.give_back.Goals as goal

pub push_as-requires-clause-rule : goal.push_as-requires-clause-rule
push_as-requires-clause-rule g c =
    let acts = one_stands _ c.pass.invariant.2 in
    (puts_key _ _ _ _ c.pass.invariant.1 acts, learns _ _ acts)

pub returns-in-Err-clause-back : goal.returns-in-Err-clause-back
returns-in-Err-clause-back g c =
    let back = c.in-Err.ensures.rule in (
      back.0 ∙ c.reopen-key.ensures.key,
      same_pass _ _ _ _ _ c.in-Err.ensures.queue.0 back.1 c.pass.view_is,
    )

pub returns-in-Err-clause-full : goal.returns-in-Err-clause-full
returns-in-Err-clause-full g c =
    let full = ap (λ (cells : SeenCells). cells.size) c.self.view_is in
    were_free_as _ _ _ _ _ full c.pass.invariant.1 c.pass.invariant.2 c.pass.view_is c.in-Err.ensures.rule.2
