-- What each step on a desk's table tells its caller, and where a seat then stands: its view, and the slots that it has with what they hold.
use Rattle.std.specs.Prelude.{◌≡◌, ◌≢◌, ℕ, zero, suc, ◌+◌, ◌-◌, ◌<◌, ◌≤◌, List, [], ◌∷◌, length, reverse, vec_capacity, Option, Some, None}
use mathlib.Core.Option as maybe
use lib.ListN.{get_elem?}
use Rattle.atomic_table.specs.Table.{Me}
use Rattle.atomic_table.specs.Seated.{TableId}
use Rattle.atomic_table.specs.declared.shared.Seat.{Seat}
use Rattle.collect_ops.specs.declared.view.Ending.{Ending}
use Rattle.collect_ops.specs.declared.view.Item.TheVariants as item
use Rattle.collect_ops.specs.declared.view.Phase.{Phase}
use Rattle.collect_ops.specs.declared.view.Phase.TheVariants as phase
use Rattle.collect_ops.specs.declared.view.View.{View}
use Rattle.collect_ops.specs.declared.view.View.TheVariants as view
use Rattle.collect_ops.specs.Views.{end_in}
use Rattle.collect_ops.specs.Rule.{Held}

-- where a seat stands
abbrev pub Standing : Type 0 → Type 0 → Type 0
Standing X E = Me (Held X E) (View X E)

-- the table of a desk of this size: two words, a slot for each index and one for the end
pub record IsDesk (size : ℕ) (table : TableId) : Type 0 where
  pub words : table.words ≡ 2
  pub slots : table.slots ≡ size + 1

module _ {X : Type 0} where
  -- an arrival whose outcome was kept, where more were left
  abbrev pub IsKept : Phase X → Type 0
  IsKept phase.Ready = ⊥
  IsKept phase.Holding = ⊥
  IsKept (phase.Kept x found) = 1 < found
  IsKept phase.Lost = ⊥
  IsKept phase.Claiming = ⊥
  IsKept phase.Claimed = ⊥
  IsKept (phase.Emptying xs) = ⊥
  IsKept (phase.Emptied xs) = ⊥
  IsKept (phase.Told xs k x) = ⊥

  -- the arrival that completed, once it has given its slots back
  abbrev pub IsDone : Phase X → Type 0
  IsDone phase.Ready = ⊥
  IsDone phase.Holding = ⊥
  IsDone (phase.Kept x found) = ⊥
  IsDone phase.Lost = ⊥
  IsDone phase.Claiming = ⊥
  IsDone phase.Claimed = Unit {0}
  IsDone (phase.Emptying xs) = ⊥
  IsDone (phase.Emptied xs) = Unit {0}
  IsDone (phase.Told xs k x) = ⊥

module _ {X E : Type 0} where
  -- a seat of this table stands so
  pub record Sits (table : TableId) (seat : Seat (Held X E) (View X E)) (standing : Standing X E) : Type 0 where
    pub of_table : seat.table_id ≡ table
    pub stands : seat.me ≡ standing

  -- the slots of outcomes, from the highest index down: the list has the outcome of the highest index first
  abbrev pub full_slots : List X → List (ℕ × Held X E)
  full_slots [] = []
  full_slots (x ∷ xs) = (length xs, Some (item.Outcome x)) ∷ full_slots xs

  -- so many empty slots, from the highest down to this one
  abbrev pub empty_slots : ℕ → ℕ → List (ℕ × Held X E)
  empty_slots lowest zero = []
  empty_slots lowest (suc n) = (lowest + n, None) ∷ empty_slots lowest n

  -- where an arrival stands in this phase, with no slot
  abbrev pub at : ℕ → Ending X E → ℕ → Phase X → Standing X E
  at size r index p = (view.Arriving size r index p, [])

  -- the room for the list is empty, and has place for so many
  pub record HasRoom (size : ℕ) (r : Ending X E) : Type 0 where
    pub empty : r.room.items ≡ []
    pub wide : size ≤ vec_capacity r.room

  -- this seat is the desk's own
  pub record IsOwner (size : ℕ) (table : TableId) (seat : Seat (Held X E) (View X E)) : Type 0 where
    pub ending : Ending X E
    pub sits : Sits table seat (view.Owner size ending, [])

  -- this seat deals the arrivals from this index on
  pub record IsDealer (size index : ℕ) (table : TableId) (seat : Seat (Held X E) (View X E)) : Type 0 where
    pub ending : Ending X E
    pub sits : Sits table seat (view.Dealing size ending index, [])
    pub room : HasRoom size ending

  -- where the arrivals weren't taken, the desk has the seat that deals, which speaks of the desk's end
  pub record Deals (size : ℕ) (table : TableId) (owner : View X E) (seat : Seat (Held X E) (View X E)) : Type 0 where
    pub dealer : IsDealer size 0 table seat
    pub same : end_in owner ≡ Some dealer.ending.end

  abbrev pub HasDealer : ℕ → TableId → View X E → Option (Seat (Held X E) (View X E)) → Type 0
  HasDealer size table owner None = Unit {0}
  HasDealer size table owner (Some seat) = Deals size table owner seat

  -- this seat is an arrival in this phase, with no slot
  pub record IsAt (size index : ℕ) (p : Phase X) (table : TableId) (seat : Seat (Held X E) (View X E)) : Type 0 where
    pub ending : Ending X E
    pub sits : Sits table seat (at size ending index p)

  -- this seat is an arrival that hasn't arrived
  pub record IsReady (size index : ℕ) (table : TableId) (seat : Seat (Held X E) (View X E)) : Type 0 where
    pub ending : Ending X E
    pub sits : Sits table seat (at size ending index phase.Ready)
    pub room : HasRoom size ending

  -- where an arrival stands that has claimed, and has the slot of the end
  abbrev pub claiming : ℕ → Ending X E → ℕ → Standing X E
  claiming size r index = (view.Arriving size r index phase.Claiming, (size, Some (item.End r)) ∷ [])

  -- where an arrival stands that was the last, and has all slots
  abbrev pub emptying : ℕ → Ending X E → ℕ → List X → Standing X E
  emptying size r index xs = (view.Arriving size r index (phase.Emptying xs), (size, Some (item.End r)) ∷ full_slots (reverse xs))

  -- an arrival that was the last, with its slots given back
  abbrev pub IsLast : Standing X E → Type 0
  IsLast m = (n : ℕ) × (r : Ending X E) × (k : ℕ) × (xs : List X) × (m ≡ at n r k (phase.Emptied xs))

  -- an arrival whose outcome was kept
  abbrev pub IsKeeper : Standing X E → Type 0
  IsKeeper m = (n : ℕ) × (r : Ending X E) × (k : ℕ) × (x : X) × (found : ℕ) × (m ≡ at n r k (phase.Kept x found))

  -- the seat of a new table takes the slot of the end, the last one, which is empty
  abbrev pub takes_end_slot : ℕ → Standing X E → ℕ → Standing X E → Type 0
  takes_end_slot slots before found after = after ≡ (view.Opening, (slots - 1, None) ∷ [])

  -- it gives it back with the end
  abbrev pub gives_end : Standing X E → ℕ → Standing X E → Type 0
  gives_end before found after =
      (size : ℕ) (r : Ending X E) → before ≡ (view.Opening, (size, Some (item.End r)) ∷ []) → after ≡ (view.Opened size r, [])

  -- what deals next, and what is dealt: the desk's own seat, and then the arrivals in the order of their indexes
  abbrev pub dealer : View X E → View X E
  dealer view.Making = view.Making
  dealer view.Opening = view.Opening
  dealer (view.Opened n r) = view.Dealing n r 0
  dealer (view.Dealing n r d) = view.Dealing n r (d + 1)
  dealer (view.Owner n r) = view.Owner n r
  dealer (view.Arriving n r k p) = view.Arriving n r k p
  dealer view.Clash = view.Clash
  dealer view.Spent = view.Spent

  abbrev pub dealt : View X E → View X E
  dealt view.Making = view.Spent
  dealt view.Opening = view.Spent
  dealt (view.Opened n r) = view.Owner n r
  dealt (view.Dealing n r d) = view.Arriving n r d phase.Ready
  dealt (view.Owner n r) = view.Spent
  dealt (view.Arriving n r k p) = view.Spent
  dealt view.Clash = view.Spent
  dealt view.Spent = view.Spent

  -- an arrival takes its slot, which is empty
  abbrev pub takes_slot : Standing X E → ℕ → Standing X E → Type 0
  takes_slot before found after =
      (n : ℕ) (r : Ending X E) (k : ℕ) → before ≡ (view.Arriving n r k phase.Ready, []) → after ≡ (view.Arriving n r k phase.Holding, (k, None) ∷ [])

  -- An arrival takes 1 off the count, and gives its slot back. Where it found 1, all others have left their outcomes, and it takes all slots.
  abbrev pub keeps : Standing X E → ℕ → Standing X E → Type 0
  keeps before found after =
      (n : ℕ) (r : Ending X E) (k : ℕ) (x : X) → before ≡ (view.Arriving n r k phase.Holding, (k, Some (item.Outcome x)) ∷ [])
      → (found ≢ 1 → (1 < found) × (found ≤ n) × (after ≡ (view.Arriving n r k (phase.Kept x found), [])))
      × (found ≡ 1 → (xs : List X) × (length xs ≡ n) × (get_elem? xs k ≡ maybe.some x)
      × (after ≡ (view.Arriving n r k (phase.Emptying xs), (n, Some (item.End r)) ∷ full_slots (reverse xs))))

  -- An arrival claims. Where nobody had claimed, it takes the slot of the end.
  abbrev pub claims : Standing X E → ℕ → Standing X E → Type 0
  claims before found after =
      (n : ℕ) (r : Ending X E) (k : ℕ) → before ≡ (view.Arriving n r k phase.Ready, [])
      → (found ≡ 0 → after ≡ (view.Arriving n r k phase.Claiming, (n, Some (item.End r)) ∷ []))
      × (found ≢ 0 → (found ≡ 1) × (after ≡ (view.Arriving n r k phase.Lost, [])))

  -- the arrival that claimed gives the slot of the end back, empty
  abbrev pub returns_end : Standing X E → ℕ → Standing X E → Type 0
  returns_end before found after =
      (n : ℕ) (r : Ending X E) (k : ℕ) → before ≡ (view.Arriving n r k phase.Claiming, (n, None) ∷ []) → after ≡ (view.Arriving n r k phase.Claimed, [])

  -- the arrival that was the last gives all slots back, empty
  abbrev pub returns_all : Standing X E → ℕ → Standing X E → Type 0
  returns_all before found after =
      (n : ℕ) (r : Ending X E) (k : ℕ) (xs : List X) → before ≡ (view.Arriving n r k (phase.Emptying xs), empty_slots 0 (n + 1)) → after ≡ (view.Arriving n r k (phase.Emptied xs), [])

  -- the arrival that was the last is put together with another, and knows what that one had left
  abbrev pub told_phase : ℕ → Ending X E → ℕ → List X → ℕ → Phase X → View X E
  told_phase n r k xs j (phase.Kept x found) = view.Arriving n r k (phase.Told xs j x)
  told_phase n r k xs j _ = view.Clash

  abbrev pub told_view : ℕ → Ending X E → ℕ → List X → View X E → View X E
  told_view n r k xs (view.Arriving m q j p) = told_phase n r k xs j p
  told_view n r k xs _ = view.Clash

  abbrev pub telling : ℕ → Ending X E → ℕ → Phase X → View X E → View X E
  telling n r k (phase.Emptied xs) w = told_view n r k xs w
  telling n r k _ w = view.Clash

  abbrev pub told : View X E → View X E → View X E
  told (view.Arriving n r k p) w = telling n r k p w
  told _ w = view.Clash

  -- what it was told stands in the list
  abbrev pub reads_told : Standing X E → ℕ → Standing X E → Type 0
  reads_told before found after =
      (n : ℕ) (r : Ending X E) (k : ℕ) (xs : List X) (j : ℕ) (x : X) → before ≡ (view.Arriving n r k (phase.Told xs j x), [])
      → (get_elem? xs j ≡ maybe.some x) × (after ≡ (view.Arriving n r k (phase.Emptied xs), []))
