-- The table of the timers and the lists of the slots: each id stands at the spot that the table has of it.
use Rattle.std.specs.Prelude.{◌≡◌, ℕ, ◌+◌, ◌≤◌, ◌==◌, ◌++◌, List, [], ◌∷◌, Option, None, Some, Result, Ok, Err, option_map, option_to_list, true, false, Bool, if◌then◌else◌}
use Rattle.id_table.specs.Pairs.{value_of, AreDistinct}
use Rattle.timer_slots.specs.Seen.{SlotsSeen, spot_at}
use Rattle.fan_base.specs.declared.refusal.Memory.{Memory}
use Rattle.tick_wheel.specs.declared.timed.Timed.{Timed}
use Rattle.tick_wheel.specs.Held.{Held, held_in}
use Rattle.tick_wheel.specs.Table.{Index, held_at}

-- what one finds of the other leads back
pub record AreInverse (f g : ℕ → Option ℕ) : Type 0 where
  pub there : (a b : ℕ) → f a ≡ Some b → g b ≡ Some a
  pub back : (a b : ℕ) → g b ≡ Some a → f a ≡ Some b

-- how many entries were moved by a call with this answer
abbrev pub moves_of : Result Bool Memory → ℕ
moves_of (Ok true) = 1
moves_of (Ok false) = 0
moves_of (Err e) = 0

module _ {T : Type 0} where
  -- the spot of an id
  abbrev pub spot_of : List (ℕ × (ℕ × Timed T)) → ℕ → Option ℕ
  spot_of pairs id = option_map (λ (value : ℕ × Timed T). value.0) (value_of pairs id)

  pub record IsBook (pairs : List (ℕ × (ℕ × Timed T))) (slots : SlotsSeen) : Type 0 where
    pub linked : AreInverse (spot_of pairs) (spot_at slots)
    pub distinct : AreDistinct pairs

  -- the number of scheduling and the id of a timer, where it stands at this spot
  abbrev pub key_of_value : ℕ → ℕ → Option (ℕ × Timed T) → Option (ℕ × ℕ)
  key_of_value spot id None = None
  key_of_value spot id (Some value) = if value.0 == spot then Some (value.1.order, id) else None

  abbrev pub key_option : List (ℕ × (ℕ × Timed T)) → ℕ → ℕ → Option (ℕ × ℕ)
  key_option pairs spot id = key_of_value spot id (value_of pairs id)

  abbrev pub key_list : List (ℕ × (ℕ × Timed T)) → ℕ → ℕ → List (ℕ × ℕ)
  key_list pairs spot id = option_to_list (key_option pairs spot id)

  -- those of ids whose spots are this one and the next ones
  abbrev pub keys_from : List (ℕ × (ℕ × Timed T)) → ℕ → List ℕ → List (ℕ × ℕ)
  keys_from pairs spot [] = []
  keys_from pairs spot (id ∷ ids) = key_list pairs spot id ++ keys_from pairs (spot + 1) ids

  -- an id's timer came into a slot
  abbrev pub IsPut : Index T → Index T → ℕ → ℕ → Timed T → Type 0
  IsPut old new slot id timed = (q : ℕ) → held_at new q ≡ (if id == q then Some (held_in slot timed) else held_at old q)

  -- an id's timer left, where there was one
  abbrev pub IsGone : Index T → Index T → ℕ → Type 0
  IsGone old new id = (q : ℕ) → held_at new q ≡ (if id == q then None else held_at old q)

  -- an id's timer is held, in some slot
  abbrev pub IsHeldAs : Index T → ℕ → Timed T → Type 0
  IsHeldAs index id timed = (slot : ℕ) × (held_at index id ≡ Some (held_in slot timed))

  -- what stands in a slot is due at this tick at the earliest
  abbrev pub IsDueFrom : Index T → ℕ → ℕ → Type 0
  IsDueFrom index slot tick = (id : ℕ) (held : Held T) → held_at index id ≡ Some held → held.slot ≡ slot → tick ≤ held.due
