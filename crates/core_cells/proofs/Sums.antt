-- Sums over a list in which one place changes.
use Rattle.std.proofs.Common.{◌≡◌, ◌≢◌, ℕ, zero, suc, ◌+◌, ◌<◌, ◌≤◌, List, [], ◌∷◌, length, refl, sym, ap, arith}
use Rattle.std.specs.Prelude.{sum_by, slice_set}
use mathlib.Core.Option.{some, some-injective, some-ne-none}
use lib.ListN.{get_elem?}
use Rattle.std.proofs.lemmas.List.Sums.{sum_by-cons}

pub within : {A : Type 0} (xs : List A) (i : ℕ) (v : A) → get_elem? xs i ≡ some v → i < length xs
within [] i v e = absurd (some-ne-none v (sym e))
within (x ∷ xs) zero v e = omega arith
within (x ∷ xs) (suc i) v e = omega (arith, within xs i v e)

module _ {A : Type 0} (g : A → ℕ) where
  -- what stands at a place is a part of the sum
  pub part : (xs : List A) (i : ℕ) (v : A) → get_elem? xs i ≡ some v → g v ≤ sum_by g xs
  part [] i v e = absurd (some-ne-none v (sym e))
  part (x ∷ xs) zero v e = let same = ap g (some-injective x v e) in omega (arith, same, sum_by-cons g x xs)
  part (x ∷ xs) (suc i) v e = omega (arith, part xs i v e, sum_by-cons g x xs)

  -- the sum after one place was written
  pub written : (xs : List A) (i : ℕ) (v w : A) → get_elem? xs i ≡ some v → sum_by g (slice_set xs i w) + g v ≡ sum_by g xs + g w
  written [] i v w e = absurd (some-ne-none v (sym e))
  written (x ∷ xs) zero v w e = let same = ap g (some-injective x v e) in omega (arith, same, sum_by-cons g x xs, sum_by-cons g w xs)
  written (x ∷ xs) (suc i) v w e = omega (arith, written xs i v w e, sum_by-cons g x xs, sum_by-cons g x (slice_set xs i w))

  -- where all others count nothing, the sum is what stands at one place
  pub alone : (xs : List A) (i : ℕ) (v : A) → get_elem? xs i ≡ some v → ((k : ℕ) (w : A) → k ≢ i → get_elem? xs k ≡ some w → g w ≡ 0) → sum_by g xs ≡ g v
  alone [] i v e others = absurd (some-ne-none v (sym e))
  alone (x ∷ xs) zero v e others = let same = ap g (some-injective x v e) in omega (arith, same, sum_by-cons g x xs, nothing xs (λ k w at. others (suc k) w (λ z. let clash = z in cc) at))
    where
      nothing : (ys : List A) → ((k : ℕ) (w : A) → get_elem? ys k ≡ some w → g w ≡ 0) → sum_by g ys ≡ 0
      nothing [] none = refl
      nothing (y ∷ ys) none = omega (arith, none 0 y refl, sum_by-cons g y ys, nothing ys (λ k w at. none (suc k) w at))
  alone (x ∷ xs) (suc i) v e others = let first = others 0 x (λ z. let clash = z in cc) refl in omega (arith, first, sum_by-cons g x xs, alone xs i v e (λ k w ne at. others (suc k) w (λ z. ne (same_before k i z)) at))
    where
      same_before : (k i : ℕ) → suc k ≡ suc i → k ≡ i
      same_before k i z = omega (arith, z)

  -- what stands at two places is a part of the sum
  pub parts : (xs : List A) (i k : ℕ) (v w : A) → k ≢ i → get_elem? xs i ≡ some v → get_elem? xs k ≡ some w → g v + g w ≤ sum_by g xs
  parts [] i k v w ne e f = absurd (some-ne-none v (sym e))
  parts (x ∷ xs) zero zero v w ne e f = absurd (ne refl)
  parts (x ∷ xs) zero (suc k) v w ne e f = let same = ap g (some-injective x v e) in omega (arith, same, part xs k w f, sum_by-cons g x xs)
  parts (x ∷ xs) (suc i) zero v w ne e f = let same = ap g (some-injective x w f) in omega (arith, same, part xs i v e, sum_by-cons g x xs)
  parts (x ∷ xs) (suc i) (suc k) v w ne e f = omega (arith, parts xs i k v w (λ z. ne (ap suc z)) e f, sum_by-cons g x xs)
