-- The same things in any order.
use Rattle.std.specs.Prelude.{◌≡◌, ℕ, List}
use Rattle.std.specs.List.{sum_by}

-- whatever number a thing counts for, both lists count for the same sum
pub record IsSameInAnyOrder {X : Type 0} (xs ys : List X) : Type 0 where
  pub sums : (weight : X → ℕ) → sum_by weight xs ≡ sum_by weight ys
