use Rattle.std.proofs.Common.{◌++◌, ◌∷◌, [], ap, ◌∙◌}
use Rattle.shard_index.specs.Parts.{total_with, weight_by}
use Rattle.shard_index.proofs.MergeLemmas.{by_shard-push}
use Rattle.shard_index.proofs.merge.weights.Goals as goal

pub loop-i-preserved : goal.loop-i-preserved
loop-i-preserved c =
    c.in_ok-push.ensures.items ∙ ((λ k. c.loop-i.invariant k ++ (c.weight_by.ensures ∙ ap (λ n. weight_by c.args.docs n) c.total_with.ensures) k ∷ [])
    ∙ by_shard-push (λ i. weight_by c.args.docs (total_with i c.args.parts.now)) c.loop-i.i)
