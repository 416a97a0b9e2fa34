use Rattle.pool_model.proofs.Accounts.{ran_once}
use Rattle.pool_model.proofs.laws.join_accounts_for_each.Goals as goal

pub returns : goal.returns
returns c = ran_once
