-- Lists of what each pass knows, read by its number: the first one, and the others where one has changed.
use Rattle.std.proofs.Common.{◌≡◌, ◌≢◌, ℕ, zero, suc, List, [], ◌∷◌, sym, subst, ⊎_elim, set}
use mathlib.Core.Option.{some, some-injective, some-ne-none}
use lib.ListN.{get_elem?}
use Rattle.crossbeam_queue.proofs.Lists.{at_set}

module _ {V : Type 0} where
  -- what holds of the one view that there is
  pub all_first : (F : ℕ → V → Type 0) (v : V) → F 0 v → (j : ℕ) (u : V) → get_elem? (v ∷ []) j ≡ some u → F j u
  all_first F v first zero u e = subst (F 0) (some-injective v u e) first
  all_first F v first (suc j) u e = absurd (some-ne-none u (sym e))

  -- another view is as it was
  pub at_other : (views : List V) (i j : ℕ) (w u : V) → j ≢ i → get_elem? (set views i w) j ≡ some u → get_elem? views j ≡ some u
  at_other views i j w u apart e = ⊎_elim (λ (x : (j ≡ i) × (w ≡ u)). absurd (apart x.0)) (λ (x : (j ≢ i) × (get_elem? views j ≡ some u)). x.1) (at_set views i j w u e)
