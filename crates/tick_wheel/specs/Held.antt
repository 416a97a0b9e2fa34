-- What is held of an id, and how a table's pairs are seen.
use Rattle.std.specs.Prelude.{ℕ, ◌/◌, List, map}
use Rattle.tick_wheel.specs.declared.timed.Timed.{Timed}

-- what is held of an id: when it is due, the number that its scheduling got, its slot, and what it carries
pub record Held (T : Type 0) : Type 0 where
  pub due : ℕ
  pub order : ℕ
  pub slot : ℕ
  pub item : T

module _ {T : Type 0} where
  -- a timer as it is seen in a slot
  abbrev pub held_in : ℕ → Timed T → Held T
  held_in slot timed = record { due = timed.due; order = timed.order; slot = slot; item = timed.item }

  -- a timer as it is seen at a spot
  abbrev pub held_of : ℕ × Timed T → Held T
  held_of value = held_in (value.0 / 18014398509481984) value.1

  -- the pairs of a table, each of an id with its spot and its timer, as they are seen
  abbrev pub seen_pair : ℕ × (ℕ × Timed T) → ℕ × Held T
  seen_pair pair = (pair.0, held_of pair.1)

  abbrev pub seen_pairs : List (ℕ × (ℕ × Timed T)) → List (ℕ × Held T)
  seen_pairs pairs = map seen_pair pairs
