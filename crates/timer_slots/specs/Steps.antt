-- What a call makes of the slots.
use Rattle.std.specs.Prelude.{◌≡◌, ◌≢◌, ℕ, ◌+◌, ◌/◌, ◌%◌, ◌==◌, None, Some, if◌then◌else◌, length}
use Rattle.timer_slots.specs.Seen.{SlotsSeen, list_of, spot_at}

-- an id came to a spot of the slot that was free
pub record Puts (old new : SlotsSeen) (slot id spot : ℕ) : Type 0 where
  pub slot_is : spot / 18014398509481984 ≡ slot
  pub free : spot_at old spot ≡ None
  pub values : (q : ℕ) → spot_at new q ≡ (if q == spot then Some id else spot_at old q)

-- the id at one spot is at another, of this slot, that was free; they may be the same
pub record Moves (old new : SlotsSeen) (slot id from to : ℕ) : Type 0 where
  pub slot_is : to / 18014398509481984 ≡ slot
  pub was : spot_at old from ≡ Some id
  pub free : to ≢ from → spot_at old to ≡ None
  pub values : (q : ℕ) → spot_at new q ≡ (if q == to then Some id else if q == from then None else spot_at old q)

-- the id is at the last spot of its slot
pub record IsLast (seen : SlotsSeen) (id spot : ℕ) : Type 0 where
  pub is : spot_at seen spot ≡ Some id
  pub place : spot % 18014398509481984 + 1 ≡ length (list_of seen.lists (spot / 18014398509481984))
