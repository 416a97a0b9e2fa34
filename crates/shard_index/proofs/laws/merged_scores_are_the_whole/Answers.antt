use Rattle.shard_index.proofs.MergeLemmas.{once-differ, scores-whole, total-with-few, weights-whole}
use Rattle.shard_index.proofs.laws.merged_scores_are_the_whole.Goals as goal

pub returns-clause-total : goal.returns-clause-total
returns-clause-total c = total-with-few

pub returns-clause-weights : goal.returns-clause-weights
returns-clause-weights c = weights-whole

pub returns-clause-scores : goal.returns-clause-scores
returns-clause-scores c = scores-whole

pub returns-clause-differ : goal.returns-clause-differ
returns-clause-differ c = once-differ
