-- The index: of each id what is held of it.
use Rattle.std.specs.Prelude.{◌≡◌, ◌≢◌, ℕ, ◌+◌, ◌<◌, ◌≤◌, ◌==◌, List, Option, Some, option_map, nat_eq, count_by, if◌then◌else◌}
use Rattle.std.specs.List.{IsDistinct, sum_by, Contains}
use Rattle.std.specs.Map.{lookup, keys_of, values_of}
use Rattle.tick_wheel.specs.Held.{Held}
use Rattle.tick_wheel.specs.Place.{IsAhead, IsSettled, slot_for}
use Rattle.tick_wheel.specs.declared.timer.Timer.{Timer}

-- ids and what is held of them, in an order that means nothing
abbrev pub Index : Type 0 → Type 0
Index T = List (ℕ × Held T)

module _ {T : Type 0} where
  -- the timer of an id
  abbrev pub timer_of : ℕ → Held T → Timer T
  timer_of id held = record { due = held.due; id = id; item = held.item }

  -- an id's timer, with the number of its scheduling before it
  abbrev pub rank_of : ℕ → Held T → ℕ × Timer T
  rank_of id held = (held.order, timer_of id held)

  abbrev pub held_at : Index T → ℕ → Option (Held T)
  held_at index id = lookup (nat_eq id) index

  abbrev pub ranked_at : Index T → ℕ → Option (ℕ × Timer T)
  ranked_at index id = option_map (rank_of id) (held_at index id)

  -- no two ids are equal
  abbrev pub IsUnique : Index T → Type 0
  IsUnique index = IsDistinct nat_eq (keys_of index)

  -- no two ids are equal, and each scheduling got a number of its own
  pub record AreApart (index : Index T) : Type 0 where
    pub unique : IsUnique index
    pub once : (id other : ℕ) (held also : Held T) → held_at index id ≡ Some held → held_at index other ≡ Some also
        → held.order ≡ also.order → id ≡ other

  -- the numbers of all schedulings are below this one
  abbrev pub AreBelow : ℕ → Index T → Type 0
  AreBelow next index = (id : ℕ) (held : Held T) → held_at index id ≡ Some held → held.order < next

  -- each entry stands where it may at this tick
  abbrev pub AreAhead : ℕ → Index T → Type 0
  AreAhead now index = (id : ℕ) (held : Held T) → held_at index id ≡ Some held → IsAhead now held.due held.slot

  -- no entry waits for the turn of its slot
  abbrev pub AreSettled : ℕ → Index T → Type 0
  AreSettled tick index = (id : ℕ) (held : Held T) → held_at index id ≡ Some held → IsSettled tick held.slot

  -- no id's entry stands in this slot
  abbrev pub IsLeft : ℕ → Index T → Type 0
  IsLeft slot index = (id : ℕ) (held : Held T) → held_at index id ≡ Some held → held.slot ≢ slot

  -- how many entries the index has in a slot
  abbrev pub in_slot : ℕ → Index T → ℕ
  in_slot slot index = count_by (λ (held : Held T). held.slot == slot) (values_of index)

  -- each entry that left a slot was one step
  abbrev pub CountsWhatLeaves : ℕ → ℕ → Index T → Index T → ℕ → Type 0
  CountsWhatLeaves before after old new slot = after + in_slot slot new ≡ before + in_slot slot old

  -- the same entry in another slot
  abbrev pub moved : Held T → ℕ → Held T
  moved held slot = record held { slot = slot }

  -- one entry of a slot stands where it is placed at this tick, and all else is as before
  pub record PlacesAnew (old new : Index T) (from tick : ℕ) : Type 0 where
    pub id : ℕ
    pub held : Held T
    pub was : held_at old id ≡ Some held
    pub slot_is : held.slot ≡ from
    pub at : (q : ℕ) → held_at new q ≡ (if id == q then Some (moved held (slot_for tick held.due)) else held_at old q)
    pub unique : IsUnique new
    pub sums : (f : ℕ × Held T → ℕ) → sum_by f new + f (id, held) ≡ sum_by f old + f (id, moved held (slot_for tick held.due))

  -- the timers are the same, and what stands in the slots from this one on stood there
  pub record Rearranges (first : ℕ) (old new : Index T) : Type 0 where
    pub same : (q : ℕ) → ranked_at new q ≡ ranked_at old q
    pub coarser : (id : ℕ) (held : Held T) → held_at new id ≡ Some held → first ≤ held.slot → held_at old id ≡ Some held

  -- each number and id is of an entry in the slot, and each entry in the slot is among them
  pub record ListsIds (index : Index T) (slot : ℕ) (items : List (ℕ × ℕ)) : Type 0 where
    pub each : (g : ℕ × ℕ) → Contains items g → (held : Held T) × (held_at index g.1 ≡ Some held) × (held.slot ≡ slot) × (held.order ≡ g.0)
    pub all : (id : ℕ) (held : Held T) → held_at index id ≡ Some held → held.slot ≡ slot → Contains items (held.order, id)
