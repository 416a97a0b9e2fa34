use Rattle.std.proofs.Common.{◌≡◌, ◌||◌, Bool, true, false, refl, ◌∙◌}
use Rattle.std.proofs.lemmas.Result.{IfOk-weaker}
use Rattle.shard_index.proofs.SelectionLemmas.{places_where-same}
use Rattle.shard_index.proofs.join.all.Goals as goal

turned : (b c : Bool) → (c || b) ≡ (b || c)
turned true true = refl
turned true false = refl
turned false true = refl
turned false false = refl

pub returns-then-second-first : goal.returns-then-second-first
returns-then-second-first c = λ p q docs first second.
    IfOk-weaker c.all_far-then-second-first.result _ _ (λ kept is. is ∙ places_where-same _ _ docs (λ doc. turned (p doc) (q doc)))
    (c.all_far-then-second-first.ensures q p docs second first)
