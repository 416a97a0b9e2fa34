-- The oldest job leaves the list.
use Rattle.std.proofs.Common.{◌≡◌, ℕ, zero, suc, ◌≤◌, List, [], ◌∷◌, ◌++◌, length, take, drop, ap, arith}

module _ {A : Type 0} where
  pub not_empty : (a : A) (xs : List A) → [] ≡ a ∷ xs → ⊥
  not_empty a xs e = absurd (cc)

  -- after k items, one more is taken
  pub oldest : (all : List A) (k : ℕ) (a : A) (rest : List A) → drop k all ≡ a ∷ rest → (drop (suc k) all ≡ rest) × (suc k ≤ length all) × (take (suc k) all ≡ take k all ++ a ∷ [])
  oldest [] zero a rest e = absurd (not_empty a rest e)
  oldest [] (suc k) a rest e = absurd (not_empty a rest e)
  oldest (x ∷ xs) zero a rest e = (ap (λ (l : List A). drop 1 l) e, omega arith, ap (λ (l : List A). take 1 l) e)
  oldest (x ∷ xs) (suc k) a rest e = let more = oldest xs k a rest e in (more.0, omega (arith, more.1), ap (λ (l : List A). x ∷ l) more.2)
