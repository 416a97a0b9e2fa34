-- Where an entry may stand: by its slot's width, as now goes on.
use Rattle.std.proofs.Common.{◌≡◌, ℕ, ◌+◌, ◌%◌, ◌<◌, ◌≤◌, inl, inr, arith}
use Rattle.tick_wheel.specs.Place.{slot_for, IsAhead, IsWheel, turning_slot, IsSettled}

-- an entry that is scheduled
pub ahead_from_delay : (now due : ℕ) → now < due → due ≤ now + 4294967295 → IsAhead now due (slot_for now due)
ahead_from_delay now due later fits = record {
  finest = grind arith;
  second = grind arith;
  third = grind arith;
  coarsest = grind arith;
  within = grind arith;
}

-- an entry in the slot that turns is due within the slot's width
pub due_from_turning : (first width now due : ℕ) → IsWheel first width → (now + 1) % width ≡ 0
    → IsAhead now due (turning_slot first width (now + 1)) → (now + 1 ≤ due) × (due < now + 1 + width)
due_from_turning first width now due (inl h) turns ahead = let a = ahead.second (grind arith) (grind arith) in (grind arith, grind arith)
due_from_turning first width now due (inr (inl h)) turns ahead = let a = ahead.third (grind arith) (grind arith) in (grind arith, grind arith)
due_from_turning first width now due (inr (inr h)) turns ahead = let a = ahead.coarsest (grind arith) in (grind arith, grind arith)

-- an entry that is placed anew goes to a finer wheel, and is ahead of now still
pub ahead_from_turn : (first width now due : ℕ) → IsWheel first width → (now + 1) % width ≡ 0 → now + 1 ≤ due → due < now + 1 + width
    → IsAhead now due (slot_for (now + 1) due) × (slot_for (now + 1) due < first)
ahead_from_turn first width now due (inl h) turns low high = (
  record {
    finest = grind arith;
    second = grind arith;
    third = grind arith;
    coarsest = grind arith;
    within = grind arith;
  },
  grind arith,
)
ahead_from_turn first width now due (inr (inl h)) turns low high = (
  record {
    finest = grind arith;
    second = grind arith;
    third = grind arith;
    coarsest = grind arith;
    within = grind arith;
  },
  grind arith,
)
ahead_from_turn first width now due (inr (inr h)) turns low high = (
  record {
    finest = grind arith;
    second = grind arith;
    third = grind arith;
    coarsest = grind arith;
    within = grind arith;
  },
  grind arith,
)

-- what is due at the next tick stands in that tick's slot
pub slot_from_due : (now due slot : ℕ) → IsAhead now due slot → IsSettled (now + 1) slot → due ≡ now + 1 → slot ≡ (now + 1) % 256
slot_from_due now due slot ahead settled at = grind (arith, ahead.finest, ahead.second, ahead.third, ahead.coarsest, settled.second, settled.third, settled.coarsest, ahead.within)

-- what stands in the next tick's slot is due then
pub due_from_slot : (now due : ℕ) → IsAhead now due ((now + 1) % 256) → due ≡ now + 1
due_from_slot now due ahead = let a = ahead.finest (grind arith) in grind arith

-- what isn't due at the next tick is ahead of it
pub ahead_at_next : (now due slot : ℕ) → IsAhead now due slot → IsSettled (now + 1) slot → (due ≡ now + 1 → ⊥) → IsAhead (now + 1) due slot
ahead_at_next now due slot ahead settled later = record {
  finest = λ h. let a = ahead.finest h in (grind arith, grind arith, a.2);
  second = λ h k. let a = ahead.second h k in ((grind (arith, settled.second), grind arith), a.1);
  third = λ h k. let a = ahead.third h k in ((grind (arith, settled.third), grind arith), a.1);
  coarsest = λ h. let a = ahead.coarsest h in ((grind (arith, settled.coarsest), grind arith), a.1);
  within = ahead.within;
}
