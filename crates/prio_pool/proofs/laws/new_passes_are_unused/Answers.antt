use Rattle.prio_pool.proofs.Unused.{unused_passes, numbered_passes, own_workers, own_helpers}
use Rattle.prio_pool.proofs.laws.new_passes_are_unused.Goals as goal

pub returns-clause-passes : goal.returns-clause-passes
returns-clause-passes c = unused_passes

pub returns-clause-numbered : goal.returns-clause-numbered
returns-clause-numbered c = numbered_passes

pub returns-clause-workers : goal.returns-clause-workers
returns-clause-workers c = own_workers

pub returns-clause-helpers : goal.returns-clause-helpers
returns-clause-helpers c = own_helpers
