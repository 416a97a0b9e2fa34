use Rattle.std.proofs.Common.{ℕ, List, ◌<◌, ◌^◌, ◌++◌, ◌∷◌, [], length, ap, sym, subst, ◌∙◌}
use Rattle.std.specs.List.{All}
use Rattle.query_model.specs.Parts.{part_before, weighted_top}
use Rattle.shard_index.specs.declared.shard.Shard.{Shard}
use Rattle.shard_index.specs.Standing.{StandsFor}
use Rattle.shard_index.proofs.MergeLemmas.{by_shard-push}
use Rattle.query_parts.proofs.MergeLemmas.{weights-low}
use Rattle.query_model.specs.Answers.{each_once}
use Rattle.query_parts.proofs.ranking.Ranking.scores_in_each.Goals as goal

pub scores-requires-clause-low : goal.scores-requires-clause-low
scores-requires-clause-low c =
    subst (λ (gs : List ℕ). All (λ g. g < 2 ^ 32) gs) (sym (c.as_slice.ensures ∙ ap (λ r. r.weights) c.requires.ranking_is))
    (weights-low c.requires.docs c.args.before (each_once c.requires.words) c.requires.are.few)

pub loop-shard-preserved : goal.loop-shard-preserved
loop-shard-preserved c = λ docs are.
    let n = length c.args.shards.now in
    let i = c.loop-shard.shard-index in
    let stand = subst (λ (shard : Shard). StandsFor shard docs n i) (sym c.shard-item.is) (are.each i c.shard-item.result c.loop-shard-test.true) in
    let here = c.in_ok-scores.ensures docs n i stand ∙ ap (λ gs. weighted_top c.args.self.now.k c.args.self.now.words gs (part_before docs n i c.args.before)) c.as_slice.ensures in
    c.in_ok-push.ensures
    ∙ ((λ k. c.loop-shard.invariant docs are k ++ here k ∷ [])
    ∙ by_shard-push (λ m. weighted_top c.args.self.now.k c.args.self.now.words c.args.self.now.weights (part_before docs n m c.args.before)) i)
