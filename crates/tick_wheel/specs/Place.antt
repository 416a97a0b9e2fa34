-- In which slot an entry stands: there are 4 wheels of 256 slots, whose slots are 1, 256, 65,536 and 16,777,216 ticks wide.
use Rattle.std.specs.Prelude.{◌≡◌, ℕ, ◌+◌, ◌-◌, ◌/◌, ◌%◌, ◌<◌, ◌≤◌, ◌⊎◌, nat_lt, if◌then◌else◌}

-- the slot of an entry with this due tick, placed at this tick
abbrev pub slot_for : ℕ → ℕ → ℕ
slot_for at due =
    if nat_lt (due - at) 256 then due % 256 else
    (if nat_lt (due - at) 65536 then 256 + due / 256 % 256 else
    (if nat_lt (due - at) 16777216 then 512 + due / 65536 % 256 else 768 + due / 16777216 % 256))

-- a slot of so wide ticks is ahead of now, and within one round of its wheel
abbrev pub IsWithinRound : ℕ → ℕ → ℕ → Type 0
IsWithinRound width now due = (now / width < due / width) × (due / width ≤ now / width + 256)

-- an entry with this due tick may stand in this slot
pub record IsAhead (now due slot : ℕ) : Type 0 where
  pub finest : slot < 256 → (now < due) × (due ≤ now + 256) × (slot ≡ due % 256)
  pub second : 256 ≤ slot → slot < 512 → IsWithinRound 256 now due × (slot ≡ 256 + due / 256 % 256)
  pub third : 512 ≤ slot → slot < 768 → IsWithinRound 65536 now due × (slot ≡ 512 + due / 65536 % 256)
  pub coarsest : 768 ≤ slot → IsWithinRound 16777216 now due × (slot ≡ 768 + due / 16777216 % 256)
  pub within : slot < 1024

-- the wheel whose first slot this is has slots of this width
abbrev pub IsWheel : ℕ → ℕ → Type 0
IsWheel first width =
    ((first ≡ 256) × (width ≡ 256)) ⊎ (((first ≡ 512) × (width ≡ 65536)) ⊎ ((first ≡ 768) × (width ≡ 16777216)))

-- the slot that is placed anew when now becomes this tick, where it is a multiple of the width
abbrev pub turning_slot : ℕ → ℕ → ℕ → ℕ
turning_slot first width tick = first + tick / width % 256

-- no entry of this slot waits for the turn of its slot at this tick
pub record IsSettled (tick slot : ℕ) : Type 0 where
  pub second : tick % 256 ≡ 0 → slot ≡ 256 + tick / 256 % 256 → ⊥
  pub third : tick % 65536 ≡ 0 → slot ≡ 512 + tick / 65536 % 256 → ⊥
  pub coarsest : tick % 16777216 ≡ 0 → slot ≡ 768 + tick / 16777216 % 256 → ⊥
