-- Spots that wait are cleared, part of the way.
use Rattle.std.proofs.Common.{◌≡◌, ℕ, List}
use Rattle.timer_slots.specs.Seen.{SlotsSeen}
use Rattle.tick_wheel.specs.Book.{IsBook}
use Rattle.tick_wheel.specs.Held.{seen_pairs}
use Rattle.tick_wheel.specs.declared.timed.Timed.{Timed}

pub record ClearsSo {T : Type 0} (old : List (ℕ × (ℕ × Timed T))) (pairs : List (ℕ × (ℕ × Timed T))) (slots : SlotsSeen) : Type 0 where
  pub book : IsBook pairs slots
  pub seen : seen_pairs pairs ≡ seen_pairs old
