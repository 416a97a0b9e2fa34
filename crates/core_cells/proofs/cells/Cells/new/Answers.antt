use Rattle.core_cells.proofs.Free.{begins}
use Rattle.core_cells.proofs.cells.Cells.new.Goals as goal

pub ruled-requires-clause-rule : goal.ruled-requires-clause-rule
ruled-requires-clause-rule g c = begins
