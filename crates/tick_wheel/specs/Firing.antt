-- The index while one slot fires: its entries leave in the order in which they were gathered.
use Rattle.std.specs.Prelude.{◌≡◌, ℕ, ◌+◌, ◌<◌, ◌≤◌, List, Some, length, slice_index_or}
use Rattle.std.specs.List.Sorted.{IsNonDecreasingBy}
use Rattle.tick_wheel.specs.Handouts.{handouts_of}
use Rattle.tick_wheel.specs.Held.{Held}
use Rattle.tick_wheel.specs.Kept.{timers_of}
use Rattle.tick_wheel.specs.Table.{Index, AreApart, AreAhead, held_at}
use Rattle.tick_wheel.specs.TimerList.{due_at, due_later}

-- a number of scheduling and an id
abbrev pub key_at : List (ℕ × ℕ) → ℕ → ℕ × ℕ
key_at keys place = slice_index_or keys place (0, 0)

module _ {T : Type 0} where
  -- the keys from this place on are those of the slot's entries: whoever is held under one of them stands in the slot
  pub record IsFiring (slot : ℕ) (keys : List (ℕ × ℕ)) (place : ℕ) (index : Index T) : Type 0 where
    pub rises : IsNonDecreasingBy (λ (k : ℕ × ℕ). k.0) keys
    pub each : (i : ℕ) (held : Held T) → place ≤ i → i < length keys → held_at index ((key_at keys i).1) ≡ Some held
        → (held.slot ≡ slot) × (held.order ≡ (key_at keys i).0)
    pub all : (id : ℕ) (held : Held T) → held_at index id ≡ Some held → held.slot ≡ slot
        → (i : ℕ) × (place ≤ i) × (i < length keys) × (key_at keys i ≡ (held.order, id))

  -- the index has no more than it had
  abbrev pub IsPartOf : Index T → Index T → Type 0
  IsPartOf new old = (id : ℕ) (held : Held T) → held_at new id ≡ Some held → held_at old id ≡ Some held

  -- what was due at the next tick has left, in order of scheduling, and each was one step
  pub record Fires {X : Type 0} (handout : ℕ → T → X) (now : ℕ) (old new : Index T) (before after : ℕ) (fired : List X) : Type 0 where
    pub apart : AreApart new
    pub ahead : AreAhead (now + 1) new
    pub part : IsPartOf new old
    pub fired_is : fired ≡ handouts_of handout (due_at (now + 1) (timers_of old))
    pub rest : timers_of new ≡ due_later (now + 1) (timers_of old)
    pub counted : after ≡ before + length fired
