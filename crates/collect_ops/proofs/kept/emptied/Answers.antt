use Rattle.collect_ops.proofs.Closing.{nobody_left}
use Rattle.collect_ops.proofs.kept.emptied.Goals as goal

pub returns-clause-none : goal.returns-clause-none
returns-clause-none g c = nobody_left _ _ _ _ c.requires.last c.close_with.ensures.values.2
