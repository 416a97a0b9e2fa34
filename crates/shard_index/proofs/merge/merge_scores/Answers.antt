use Rattle.std.proofs.Common.{◌∙◌}
use Rattle.shard_index.proofs.MergeLemmas.{scores-of}
use Rattle.shard_index.proofs.merge.merge_scores.Goals as goal

pub returns : goal.returns
returns c = scores-of c.args.k c.loop-part.part-index c.args.parts.now c.from_vec.result c.loop-part-test.false (c.from_vec.ensures ∙ c.loop-part.invariant)
