use Rattle.pool_model.proofs.Turns.{takes_from_the_highest}
use Rattle.pool_model.proofs.laws.takes_follow_empty_looks.Goals as goal

pub returns : goal.returns
returns c = takes_from_the_highest
