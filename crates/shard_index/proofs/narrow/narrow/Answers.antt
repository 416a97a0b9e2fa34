use Rattle.std.proofs.Common.{Bool, not, ◌&&◌, cond, sym, ap, ◌∙◌}
use Rattle.std.proofs.lemmas.Result.{IfOk-weaker}
use Rattle.shard_index.proofs.SelectionLemmas.{places_where-same}
use Rattle.shard_index.proofs.narrow.narrow.Goals as goal

pub returns-then-wanted : goal.returns-then-wanted
returns-then-wanted c = λ p q docs are stand.
    IfOk-weaker c.common_near.result _ _ (λ kept is. is ∙ places_where-same _ _ docs (λ doc. ap (λ (b : Bool). p doc && cond b (q doc) (not (q doc))) (sym c.if-wanted.true)))
    (c.common_near.ensures p q docs are stand)

pub returns-else-wanted : goal.returns-else-wanted
returns-else-wanted c = λ p q docs are stand.
    IfOk-weaker c.without_near.result _ _ (λ kept is. is ∙ places_where-same _ _ docs (λ doc. ap (λ (b : Bool). p doc && cond b (q doc) (not (q doc))) (sym c.if-wanted.false)))
    (c.without_near.ensures p q docs are stand)
