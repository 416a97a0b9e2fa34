use Rattle.std.proofs.Common.{◌++◌, ◌∷◌, [], length, sym, subst, ◌∙◌}
use Rattle.query_model.specs.Parts.{part_before}
use Rattle.shard_index.specs.declared.shard.Shard.{Shard}
use Rattle.shard_index.specs.Standing.{StandsFor}
use Rattle.shard_index.proofs.MergeLemmas.{by_shard-push}
use Rattle.query_parts.specs.Parts.{part_answer}
use Rattle.query_parts.proofs.whole.answer_each.Goals as goal

pub loop-shard-preserved : goal.loop-shard-preserved
loop-shard-preserved c = λ docs are.
    let n = length c.args.shards.now in
    let i = c.loop-shard.shard-index in
    let stand = subst (λ (shard : Shard). StandsFor shard docs n i) (sym c.shard-item.is) (are.each i c.shard-item.result c.loop-shard-test.true) in
    c.in_ok-push.ensures
    ∙ ((λ k. c.loop-shard.invariant docs are k ++ c.in_ok-answer_part.ensures docs n i stand k ∷ [])
    ∙ by_shard-push (λ m. part_answer c.args.ask.now (part_before docs n m c.args.before)) i)
