-- The history of a count, the newest event first, and the count that it leaves.
use Rattle.std.specs.Prelude.{◌≡◌, ℕ, ◌+◌, ◌-◌, ◌≤◌, List, [], ◌∷◌}

pub data Event : Type 0 where
  copy : Event
  release : Event
  owner_left : Event

abbrev pub copies_of : List Event → ℕ
copies_of [] = 0
copies_of (copy ∷ events) = copies_of events + 1
copies_of (release ∷ events) = copies_of events
copies_of (owner_left ∷ events) = copies_of events

abbrev pub releases_of : List Event → ℕ
releases_of [] = 0
releases_of (copy ∷ events) = releases_of events
releases_of (release ∷ events) = releases_of events + 1
releases_of (owner_left ∷ events) = releases_of events

abbrev pub leaves_of : List Event → ℕ
leaves_of [] = 0
leaves_of (copy ∷ events) = leaves_of events
leaves_of (release ∷ events) = leaves_of events
leaves_of (owner_left ∷ events) = leaves_of events + 1

-- 2 and the copies, less the releases, less 1 where the owner has left
abbrev pub count_of : List Event → ℕ
count_of events = (2 + copies_of events) - (releases_of events + leaves_of events)

-- a copy or a release is made by a token that was made and isn't released, and the owner leaves once
abbrev pub IsLawful : List Event → Type 0
IsLawful [] = Unit {0}
IsLawful (copy ∷ events) = (releases_of events ≤ copies_of events) × IsLawful events
IsLawful (release ∷ events) = (releases_of events ≤ copies_of events) × IsLawful events
IsLawful (owner_left ∷ events) = (leaves_of events ≡ 0) × IsLawful events
