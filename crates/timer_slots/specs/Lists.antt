-- An id more or less at the end of a slot's list.
use Rattle.std.specs.Prelude.{◌≡◌, ℕ, ◌+◌, ◌*◌, ◌<◌, ◌++◌, List, [], ◌∷◌, length, slice_set}
use Rattle.timer_slots.specs.Seen.{list_of}

-- the id is the last of the slot now, at this spot
pub record Pushes (old new : List (List ℕ)) (slot id spot : ℕ) : Type 0 where
  pub new_is : new ≡ slice_set old slot (list_of old slot ++ id ∷ [])
  pub spot_is : spot ≡ slot * 18014398509481984 + length (list_of old slot)
  pub fits : length (list_of old slot) < 18014398509481983

-- the id was the last of the slot
pub record Pops (old new : List (List ℕ)) (slot id : ℕ) : Type 0 where
  pub len : length new ≡ length old
  pub was : list_of old slot ≡ list_of new slot ++ id ∷ []
  pub new_is : new ≡ slice_set old slot (list_of new slot)
