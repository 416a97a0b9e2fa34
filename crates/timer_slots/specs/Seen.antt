-- What contracts see of the slots: the list of ids of each, and the spots that wait to be cleared.
use Rattle.std.specs.Prelude.{ℕ, ◌+◌, ◌-◌, ◌*◌, ◌/◌, ◌%◌, ◌==◌, List, [], Option, None, if◌then◌else◌, length, slice_get, slice_index_or}
use Rattle.std.specs.List.{count_by}

pub record SlotsSeen : Type 0 where
  pub lists : List (List ℕ)
  pub late : List ℕ

-- the ids of a slot
abbrev pub list_of : List (List ℕ) → ℕ → List ℕ
list_of lists slot = slice_index_or lists slot []

-- the id at a spot, that of a place in a slot, whether it waits or not
abbrev pub id_in : List (List ℕ) → ℕ → Option ℕ
id_in lists spot = slice_get (list_of lists (spot / 18014398509481984)) (spot % 18014398509481984)

-- how often a spot waits
abbrev pub times : List ℕ → ℕ → ℕ
times late spot = count_by (λ other. spot == other) late

-- the id at a spot, where there is one and it doesn't wait
abbrev pub spot_at : SlotsSeen → ℕ → Option ℕ
spot_at seen spot = if times seen.late spot == 0 then id_in seen.lists spot else None

-- the last spot of a slot that has one
abbrev pub tail_in : List (List ℕ) → ℕ → ℕ
tail_in lists slot = slot * 18014398509481984 + (length (list_of lists slot) - 1)

-- the spot that is cleared next
abbrev pub next_of : SlotsSeen → ℕ
next_of seen = slice_index_or seen.late (length seen.late - 1) 0

-- the last spot of the slot of the spot that waits at a place, and of the one that is cleared next
abbrev pub tail_at : SlotsSeen → ℕ → ℕ
tail_at seen place = tail_in seen.lists (slice_index_or seen.late place 0 / 18014398509481984)

abbrev pub tail_of : SlotsSeen → ℕ
tail_of seen = tail_at seen (length seen.late - 1)
