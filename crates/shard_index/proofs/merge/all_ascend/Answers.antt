use Rattle.std.proofs.Common.{All, List, ℕ, ltb, subst}
use Rattle.std.proofs.lemmas.List.{take_all}
use Rattle.std.proofs.lemmas.List.Elements.{All-more}
use Rattle.query_model.specs.declared.reply.Hits.{Hits}
use Rattle.query_model.specs.Sorting.{IsInOrder}
use Rattle.shard_index.proofs.HitLemmas.{in-order}
use Rattle.shard_index.proofs.merge.all_ascend.Goals as goal

pub loop-part-preserved : goal.loop-part-preserved
loop-part-preserved c =
    All-more (λ (hits : Hits). IsInOrder ltb hits.ids) c.args.parts.now c.loop-part.part-index c.part-item.result c.loop-part-test.true c.loop-part.invariant
    (subst (λ (hits : Hits). IsInOrder ltb hits.ids) c.part-item.is (subst (λ (ids : List ℕ). IsInOrder ltb ids) c.as_slice.ensures (in-order c.as_slice.result.now (c.ascend.ensures c.if-not-ascend.false))))

pub returns : goal.returns
returns c = λ is. subst (λ (parts : List Hits). All (λ (hits : Hits). IsInOrder ltb hits.ids) parts) (take_all c.loop-part.part-index c.args.parts.now c.loop-part-test.false) c.loop-part.invariant
