use Rattle.std.proofs.Common.{◌∙◌}
use Rattle.shard_index.proofs.MergeLemmas.{merged-of}
use Rattle.shard_index.proofs.merge.merge_hits.Goals as goal

pub returns : goal.returns
returns c = merged-of c.args.parts.now c.from_vec.result c.total_of.result (c.from_vec.ensures ∙ c.in_ok-ids.ensures) c.total_of.ensures
