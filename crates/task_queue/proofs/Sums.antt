-- Sums over all views.
use Rattle.std.proofs.Common.{◌≡◌, ◌≢◌, ℕ, zero, suc, ◌+◌, ◌≤◌, List, [], ◌∷◌, ◌++◌, set, refl, sym, ap, arith}
use Rattle.std.specs.List.{sum_by}
use Rattle.std.proofs.lemmas.List.Sums.{sum_by-cons, sum_by_push}
use mathlib.Core.Option.{some, some-injective, some-ne-none}
use lib.ListN.{get_elem?}

module _ {V : Type 0} where
  -- one view changes
  pub sum-set : (f : V → ℕ) (vs : List V) (i : ℕ) (v w : V) → get_elem? vs i ≡ some v → sum_by f (set vs i w) + f v ≡ sum_by f vs + f w
  sum-set f [] i v w at = absurd (some-ne-none v (sym at))
  sum-set f (x ∷ xs) zero v w at = let is : f x ≡ f v = ap f (some-injective x v at) in omega (arith, is, sum_by-cons f x xs, sum_by-cons f w xs)
  sum-set f (x ∷ xs) (suc i) v w at = let rest = sum-set f xs i v w at in omega (arith, rest, sum_by-cons f x xs, sum_by-cons f x (set xs i w))

  -- and a new one comes
  pub sum-fork : (f : V → ℕ) (vs : List V) (i : ℕ) (v w u : V) → get_elem? vs i ≡ some v → sum_by f (set vs i w ++ u ∷ []) + f v ≡ (sum_by f vs + f w) + f u
  sum-fork f vs i v w u at = let a = sum-set f vs i v w at in omega (arith, a, sum_by_push f (set vs i w) u)

  -- a second one changes too
  pub sum-merge : (f : V → ℕ) (vs : List V) (i j : ℕ) (v w x y : V) → get_elem? vs i ≡ some v → get_elem? (set vs i w) j ≡ some x → (sum_by f (set (set vs i w) j y) + f v) + f x ≡ (sum_by f vs + f w) + f y
  sum-merge f vs i j v w x y at there = let a = sum-set f vs i v w at in let b = sum-set f (set vs i w) j x y there in omega (arith, a, b)

  pub sum_at : (f : V → ℕ) (vs : List V) (i : ℕ) (v : V) → get_elem? vs i ≡ some v → f v ≤ sum_by f vs
  sum_at f [] i v at = absurd (some-ne-none v (sym at))
  sum_at f (x ∷ xs) zero v at = let is : f x ≡ f v = ap f (some-injective x v at) in omega (arith, is, sum_by-cons f x xs)
  sum_at f (x ∷ xs) (suc i) v at = let rest = sum_at f xs i v at in omega (arith, rest, sum_by-cons f x xs)

  pub sum_two : (f : V → ℕ) (vs : List V) (i j : ℕ) (v u : V) → j ≢ i → get_elem? vs i ≡ some v → get_elem? vs j ≡ some u → f v + f u ≤ sum_by f vs
  sum_two f [] i j v u apart at there = absurd (some-ne-none v (sym at))
  sum_two f (x ∷ xs) zero zero v u apart at there = absurd (apart refl)
  sum_two f (x ∷ xs) zero (suc j) v u apart at there = let is : f x ≡ f v = ap f (some-injective x v at) in let rest = sum_at f xs j u there in omega (arith, is, rest, sum_by-cons f x xs)
  sum_two f (x ∷ xs) (suc i) zero v u apart at there = let is : f x ≡ f u = ap f (some-injective x u there) in let rest = sum_at f xs i v at in omega (arith, is, rest, sum_by-cons f x xs)
  sum_two f (x ∷ xs) (suc i) (suc j) v u apart at there = let rest = sum_two f xs i j v u (λ e. apart (ap suc e)) at there in omega (arith, rest, sum_by-cons f x xs)

  -- where all others come to nothing, the sum is one view's
  pub sum_none : (f : V → ℕ) (vs : List V) → ((j : ℕ) (u : V) → get_elem? vs j ≡ some u → f u ≡ 0) → sum_by f vs ≡ 0
  sum_none f [] none = refl
  sum_none f (x ∷ xs) none = let first : f x ≡ 0 = none 0 x refl in let rest = sum_none f xs (λ j u there. none (suc j) u there) in omega (arith, first, rest, sum_by-cons f x xs)

  pub sum_one : (f : V → ℕ) (vs : List V) (i : ℕ) (v : V) → get_elem? vs i ≡ some v → ((j : ℕ) (u : V) → j ≢ i → get_elem? vs j ≡ some u → f u ≡ 0) → sum_by f vs ≡ f v
  sum_one f [] i v at none = absurd (some-ne-none v (sym at))
  sum_one f (x ∷ xs) zero v at none =
      let is : f x ≡ f v = ap f (some-injective x v at) in
      let rest = sum_none f xs (λ j u there. none (suc j) u (λ e. omega arith) there) in
      omega (arith, is, rest, sum_by-cons f x xs)
  sum_one f (x ∷ xs) (suc i) v at none =
      let first : f x ≡ 0 = none 0 x (λ e. omega arith) refl in
      let rest = sum_one f xs i v at (λ j u apart there. none (suc j) u (λ e. apart (omega arith)) there) in
      omega (arith, first, rest, sum_by-cons f x xs)

  -- view by view one is at most the other
  pub sum_most : (f g : V → ℕ) (vs : List V) → ((j : ℕ) (u : V) → get_elem? vs j ≡ some u → f u ≤ g u) → sum_by f vs ≤ sum_by g vs
  sum_most f g [] most = omega arith
  sum_most f g (x ∷ xs) most =
      let first : f x ≤ g x = most 0 x refl in
      let rest = sum_most f g xs (λ j u there. most (suc j) u there) in
      omega (arith, first, rest, sum_by-cons f x xs, sum_by-cons g x xs)
