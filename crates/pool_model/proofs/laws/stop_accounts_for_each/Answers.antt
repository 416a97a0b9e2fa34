use Rattle.pool_model.proofs.Accounts.{ran_or_returned_once}
use Rattle.pool_model.proofs.laws.stop_accounts_for_each.Goals as goal

pub returns : goal.returns
returns g c = ran_or_returned_once g.J.Headed.head
