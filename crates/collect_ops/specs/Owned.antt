-- The seats of a desk with all its arrivals in one hand.
use Rattle.std.specs.Prelude.{◌≡◌, ℕ, List, Option, Some, is_some, length, map, slice_get}
use Rattle.atomic_table.specs.declared.shared.Seat.{Seat}
use Rattle.collect_ops.specs.declared.view.View.{View}
use Rattle.collect_ops.specs.Rule.{Held}
use Rattle.collect_ops.specs.Seen.{DeskId, OwnedSeen}
use Rattle.collect_ops.specs.Steps.{IsReady}
use Rattle.collect_ops.specs.Views.{desk_in}

module _ {X E : Type 0} where
  -- this seat is the arrival of this index at this desk, which hasn't arrived
  pub record IsAwaited (desk : DeskId E) (index : ℕ) (seat : Seat (Held X E) (View X E)) : Type 0 where
    pub ready : IsReady desk.size index desk.table seat
    pub same : desk_in desk.table seat.me.0 ≡ desk

  -- for each index of a desk the seat of its arrival, or none where that has arrived
  pub record HasArrivals (desk : DeskId E) (arrivals : List (Option (Seat (Held X E) (View X E)))) : Type 0 where
    pub as_many : length arrivals ≡ desk.size
    pub each : (index : ℕ) (seat : Seat (Held X E) (View X E)) → slice_get arrivals index ≡ Some (Some seat) → IsAwaited desk index seat

  abbrev pub owned_in : DeskId E → List (Option (Seat (Held X E) (View X E))) → OwnedSeen E
  owned_in desk arrivals = record { desk = desk; awaited = map is_some arrivals }
