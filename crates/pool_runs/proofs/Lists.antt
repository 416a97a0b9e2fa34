-- Lists that are changed at one place.
use Rattle.std.proofs.Common.{◌≡◌, ℕ, zero, suc, List, [], ◌∷◌, set, Option, Some, sym, ap}
use Rattle.std.specs.Prelude.{slice_get, unwrap_or}

pub set_same : {X : Type 0} (xs : List X) (k : ℕ) (x : X) → slice_get xs k ≡ Some x → set xs k x ≡ xs
set_same [] k x at = cc
set_same (y ∷ ys) zero x at = ap (λ (z : _). z ∷ ys) (sym (ap (λ (o : Option _). unwrap_or o y) at))
set_same (y ∷ ys) (suc k) x at = ap (λ (l : List _). y ∷ l) (set_same ys k x at)
