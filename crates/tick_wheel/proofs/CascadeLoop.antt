-- A cascade part of the way.
use Rattle.std.proofs.Common.{◌≡◌, ℕ, ◌+◌, ◌≤◌, Bool, false}
use Rattle.tick_wheel.specs.Place.{turning_slot}
use Rattle.tick_wheel.specs.Table.{Index, AreApart, AreAhead, Rearranges, IsLeft, in_slot}

pub record CascadesSo {T : Type 0} (first width now : ℕ) (more : Bool) (index0 : Index T) (steps0 : ℕ) (index : Index T) (steps : ℕ) : Type 0 where
  pub apart : AreApart index
  pub ahead : AreAhead now index
  pub same : Rearranges first index0 index
  pub left : more ≡ false → IsLeft (turning_slot first width (now + 1)) index
  pub rose : steps0 ≤ steps
  pub counted : steps + in_slot (turning_slot first width (now + 1)) index ≡ steps0 + in_slot (turning_slot first width (now + 1)) index0
