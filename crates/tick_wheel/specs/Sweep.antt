-- Ids in ascending order, and how far they were gone through.
use Rattle.std.specs.Prelude.{◌≡◌, ℕ, ◌<◌, ◌≤◌, List, length, slice_index, Some}
use Rattle.tick_wheel.specs.Held.{Held}
use Rattle.tick_wheel.specs.Table.{Index, held_at}

-- the ids from this place on are those that the index holds
pub record IsListed {T : Type 0} (ids : List ℕ) (place : ℕ) (index : Index T) : Type 0 where
  pub rises : (i j : ℕ) → i < j → j < length ids → slice_index ids i < slice_index ids j
  pub each : (i : ℕ) → place ≤ i → i < length ids → (held : Held T) × (held_at index (slice_index ids i) ≡ Some held)
  pub all : (id : ℕ) (held : Held T) → held_at index id ≡ Some held → (i : ℕ) × (place ≤ i) × (i < length ids) × (slice_index ids i ≡ id)
