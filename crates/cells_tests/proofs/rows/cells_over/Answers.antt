use Rattle.std.proofs.Common.{ap}
use Rattle.core_cells.specs.Seen.{SeenPass}
use Rattle.cells_tests.proofs.rows.cells_over.Goals as goal

pub returns-in-Ok : goal.returns-in-Ok
returns-in-Ok g c k d less = ap (λ (p : SeenPass). p.cells) (c.in-Ok.ensures.passes.1 k d less)
