use Rattle.shard_index.proofs.MergeLemmas.{hits-whole, total-few}
use Rattle.shard_index.proofs.laws.merged_hits_are_the_whole.Goals as goal

pub returns-clause-hits : goal.returns-clause-hits
returns-clause-hits c = hits-whole

pub returns-clause-total : goal.returns-clause-total
returns-clause-total c = total-few
