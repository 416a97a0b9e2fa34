-- A list whose elements change one after another.
use Rattle.std.proofs.Common.{◌≡◌, ℕ, zero, suc, ◌≤◌, List, [], ◌∷◌, ◌++◌, length, map, take, set, Option, Some, refl, sym, ap, arith}
use Rattle.std.specs.Prelude.{slice_get, unwrap_or}
use Rattle.prio_pool.specs.Made.{mixed}

module _ {X Y : Type 0} (f g : X → Y) where
  pub mixed_at : (xs : List X) (k : ℕ) (x : X) → slice_get xs k ≡ Some x → slice_get (mixed f g k xs) k ≡ Some (g x)
  mixed_at [] zero x at = cc
  mixed_at [] (suc k) x at = cc
  mixed_at (y ∷ ys) zero x at = ap (λ (z : X). Some (g z)) (ap (λ (o : Option X). unwrap_or o y) at)
  mixed_at (y ∷ ys) (suc k) x at = mixed_at ys k x at

  pub mixed_set : (xs : List X) (k : ℕ) (x : X) → slice_get xs k ≡ Some x → set (mixed f g k xs) k (f x) ≡ mixed f g (suc k) xs
  mixed_set [] zero x at = cc
  mixed_set [] (suc k) x at = cc
  mixed_set (y ∷ ys) zero x at = ap (λ (z : X). f z ∷ map g ys) (sym (ap (λ (o : Option X). unwrap_or o y) at))
  mixed_set (y ∷ ys) (suc k) x at = ap (λ (l : List Y). f y ∷ l) (mixed_set ys k x at)

  pub mixed_all : (xs : List X) (k : ℕ) → length xs ≤ k → mixed f g k xs ≡ map f xs
  mixed_all [] zero le = refl
  mixed_all [] (suc k) le = refl
  mixed_all (y ∷ ys) zero le = absurd (omega arith)
  mixed_all (y ∷ ys) (suc k) le = ap (λ (l : List Y). f y ∷ l) (mixed_all ys k (omega arith))

pub take_one : {X : Type 0} (xs : List X) (k : ℕ) (x : X) → slice_get xs k ≡ Some x → take (suc k) xs ≡ take k xs ++ x ∷ []
take_one [] zero x at = cc
take_one [] (suc k) x at = cc
take_one (y ∷ ys) zero x at = ap (λ (z : _). z ∷ []) (ap (λ (o : Option _). unwrap_or o y) at)
take_one (y ∷ ys) (suc k) x at = ap (λ (l : List _). y ∷ l) (take_one ys k x at)
