-- Lists of what each pass or seat knows, read by its number.
use Rattle.std.proofs.Common.{◌≡◌, ◌≢◌, ℕ, zero, suc, ◌⊎◌, List, [], ◌∷◌, ◌++◌, length, Some, None, sym, refl, ap, subst, inl, inr, ⊎_elim, set}
use mathlib.Core.Option.{some, some-injective, some-ne-none}
use lib.ListN.{get_elem?}
use Rattle.crossbeam_queue.proofs.Lists.{at_set}

pub some_is : {m n : ℕ} → Some m ≡ Some n → m ≡ n
some_is e = cc

pub none_some : {n : ℕ} → None ≡ Some n → ⊥
none_some e = cc

module _ {V : Type 0} where
  get_end : (l : List V) (a b : V) (j : ℕ) → get_elem? (l ++ a ∷ []) j ≡ some b → (get_elem? l j ≡ some b) ⊎ ((j ≡ length l) × (a ≡ b))
  get_end [] a b zero e = inr (refl, some-injective a b e)
  get_end [] a b (suc j) e = absurd (some-ne-none b (sym e))
  get_end (x ∷ xs) a b zero e = inl e
  get_end (x ∷ xs) a b (suc j) e = ⊎_elim (λ h. inl h) (λ (h : (j ≡ length xs) × (a ≡ b)). inr (ap suc h.0, h.1)) (get_end xs a b j e)

  -- what holds of each view, after one has changed
  pub all_set : (F : ℕ → V → Type 0) (views : List V) (i : ℕ) (w : V) → F i w
      → ((j : ℕ) (u : V) → j ≢ i → get_elem? views j ≡ some u → F j u) → (j : ℕ) (u : V) → get_elem? (set views i w) j ≡ some u → F j u
  all_set F views i w mine others j u e = ⊎_elim (λ (x : (j ≡ i) × (w ≡ u)). subst (λ (y : ℕ × V). F y.0 y.1) (λ t. (sym x.0 t, x.1 t)) mine)
      (λ (x : (j ≢ i) × (get_elem? views j ≡ some u)). others j u x.0 x.1) (at_set views i j w u e)

  -- and with a new one behind the others
  pub all_more : (F : ℕ → V → Type 0) (views : List V) (w : V) → F (length views) w
      → ((j : ℕ) (u : V) → get_elem? views j ≡ some u → F j u) → (j : ℕ) (u : V) → get_elem? (views ++ w ∷ []) j ≡ some u → F j u
  all_more F views w mine others j u e = ⊎_elim (others j u)
      (λ (x : (j ≡ length views) × (w ≡ u)). subst (λ (y : ℕ × V). F y.0 y.1) (λ t. (sym x.0 t, x.1 t)) mine) (get_end views w u j e)
