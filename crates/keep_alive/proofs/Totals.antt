-- Sums over all seats.
use Rattle.std.proofs.Common.{◌≡◌, ℕ, zero, suc, ◌+◌, ◌≤◌, List, [], ◌∷◌, ◌++◌, set, sym, ap, arith}
use mathlib.Core.Option.{some, some-injective, some-ne-none}
use lib.ListN.{get_elem?}
use Rattle.keep_alive.specs.declared.view.View.{View}
use Rattle.keep_alive.specs.Rule.{total}

-- one seat's view changes
pub total-set : (f : View → ℕ) (vs : List View) (i : ℕ) (v w : View) → get_elem? vs i ≡ some v → total f (set vs i w) + f v ≡ total f vs + f w
total-set f [] i v w at = absurd (some-ne-none v (sym at))
total-set f (x ∷ xs) zero v w at = let is : f x ≡ f v = ap f (some-injective x v at) in omega arith
total-set f (x ∷ xs) (suc i) v w at = let rest = total-set f xs i v w at in omega arith

-- a new seat comes
pub total-snoc : (f : View → ℕ) (vs : List View) (v : View) → total f (vs ++ v ∷ []) ≡ total f vs + f v
total-snoc f [] v = omega arith
total-snoc f (x ∷ xs) v = let rest = total-snoc f xs v in omega arith

-- a seat's part is within the total
pub total_at : (f : View → ℕ) (vs : List View) (i : ℕ) (v : View) → get_elem? vs i ≡ some v → f v ≤ total f vs
total_at f [] i v at = absurd (some-ne-none v (sym at))
total_at f (x ∷ xs) zero v at = let is : f x ≡ f v = ap f (some-injective x v at) in omega arith
total_at f (x ∷ xs) (suc i) v at = let rest = total_at f xs i v at in omega arith
