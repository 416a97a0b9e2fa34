use Rattle.pool_model.proofs.Lawful.{numbered_are_all}
use Rattle.pool_model.proofs.laws.passes_in_order_are_all.Goals as goal

pub returns : goal.returns
returns c = numbered_are_all
