use Rattle.std.proofs.Common.{Bool, true, false, ◌≡◌, ◌&&◌, refl, ◌∙◌}
use Rattle.std.proofs.lemmas.Result.{IfOk-weaker}
use Rattle.shard_index.proofs.NarrowLemmas.{stand-where}
use Rattle.shard_index.proofs.SelectionLemmas.{places_where-same}
use Rattle.shard_index.proofs.selection.common.Goals as goal

turned : (b c : Bool) → (c && b) ≡ (b && c)
turned true true = refl
turned true false = refl
turned false true = refl
turned false false = refl

pub returns-then-a-b : goal.returns-then-a-b
returns-then-a-b c = λ p q docs first second. c.narrow.ensures p q docs first (stand-where q docs c.args.b.now second)

pub returns-else-a-b : goal.returns-else-a-b
returns-else-a-b c = λ p q docs first second.
    IfOk-weaker c.narrow-else-a-b.result _ _ (λ kept is. is ∙ places_where-same _ _ docs (λ doc. turned (p doc) (q doc)))
    (c.narrow-else-a-b.ensures q p docs second (stand-where p docs c.args.a.now first))
