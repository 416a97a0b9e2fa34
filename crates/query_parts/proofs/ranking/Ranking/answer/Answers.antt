use Rattle.std.proofs.Common.{length, ap, ◌∙◌}
use Rattle.query_model.specs.declared.reply.Reply.TheVariants as reply
use Rattle.query_model.specs.Parts.{merged_scores, part_before, weighted_top}
use Rattle.shard_index.specs.Parts.{by_shard}
use Rattle.query_parts.proofs.ranking.Ranking.answer.Goals as goal

pub returns : goal.returns
returns c = λ k words docs are is.
    let n = length c.args.shards.now in
    ap (λ scores. reply.Top scores)
    (c.in_ok-merge_scores.ensures ∙ (ap (λ ps. merged_scores c.args.self.now.k ps) (c.as_slice.ensures.value ∙ c.in_ok-parts.ensures docs are)
    ∙ ((λ j. merged_scores (is j).k (by_shard (λ m. weighted_top (is j).k (is j).words (is j).weights (part_before docs n m c.args.before)) n))
    ∙ c.merged_scores_are_the_whole.ensures.scores k words docs n c.args.before are.some)))
