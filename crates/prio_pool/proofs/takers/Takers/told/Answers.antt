use Rattle.std.proofs.Common.{subst}
use Rattle.prio_pool.specs.Takers.{HasTaken}
use Rattle.prio_pool.proofs.takers.Takers.told.Goals as goal

pub returns : goal.returns
returns g c = subst HasTaken c.self.view_is c.self.invariant.taken
