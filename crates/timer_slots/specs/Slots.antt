-- How the slots stand.
use Rattle.std.specs.Prelude.{◌≡◌, ℕ, ◌<◌, ◌≤◌, List, IsSome, length}
use Rattle.timer_slots.specs.Seen.{list_of, id_in, times}

-- there are 1,024 lists, each short enough that its places have 54 bits; no spot waits twice, and at each that waits there is an id
pub record AreSlots (lists : List (List ℕ)) (late : List ℕ) : Type 0 where
  pub room : length lists ≡ 1024
  pub short : (slot : ℕ) → length (list_of lists slot) < 18014398509481984
  pub few : length late ≤ 64
  pub once : (spot : ℕ) → times late spot ≤ 1
  pub within : (spot : ℕ) → 0 < times late spot → IsSome (id_in lists spot)
