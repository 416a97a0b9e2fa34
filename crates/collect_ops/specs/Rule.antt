-- The desk rule: what the words, the slots at home and the views of a desk's table stand for between any two steps.
-- Word 0 is how many are left, word 1 whether somebody has claimed. Slot k below the size is that of index k, and the last slot is that of the end.
-- Seat 0 deals, seat 1 is the desk's own, and seat k + 2 is the arrival of index k.
use Rattle.std.specs.Prelude.{◌≡◌, ℕ, ◌+◌, ◌<◌, ◌≤◌, ◌⊎◌, Bool, true, false, List, [], ◌∷◌, ◌++◌, map, length, replicate, Option, Some, None}
use mathlib.Core.Option as maybe
use lib.ListN.{get_elem?}
use Rattle.atomic_table.specs.Table.{State}
use Rattle.collect_ops.specs.declared.view.Ending.{Ending}
use Rattle.collect_ops.specs.declared.view.Item.{Item}
use Rattle.collect_ops.specs.declared.view.Item.TheVariants as item
use Rattle.collect_ops.specs.declared.view.Phase.{Phase}
use Rattle.collect_ops.specs.declared.view.Phase.TheVariants as phase
use Rattle.collect_ops.specs.declared.view.View.{View}
use Rattle.collect_ops.specs.declared.view.View.TheVariants as view
use Rattle.collect_ops.specs.Views.{waits}

-- what a slot holds, and a slot of the table: out with a seat, or at home with what it holds
abbrev pub Held : Type 0 → Type 0 → Type 0
Held X E = Option (Item X E)

abbrev pub Home : Type 0 → Type 0 → Type 0
Home X E = maybe.Option (Held X E)

-- the state of a table whose slots hold items and whose seats have views of a desk
abbrev pub DeskState : Type 0 → Type 0 → Type 0
DeskState X E = State (Held X E) (View X E)

-- whether the end was claimed, and the index of the arrival that claimed it: it has the slot, or has given it back
pub data Claim : Type 0 where
  free : Claim
  out : ℕ → Claim
  back : ℕ → Claim

abbrev pub claim_word : Claim → ℕ
claim_word free = 0
claim_word (out k) = 1
claim_word (back k) = 1

module _ {X : Type 0} where
  -- how many of these arrivals are left
  abbrev pub left_of : List (Phase X) → ℕ
  left_of [] = 0
  left_of (p ∷ ps) = waits p + left_of ps

  -- how an arrival at this index fits the claim, while not all outcomes are kept
  abbrev pub PhaseFits : Claim → ℕ → Phase X → Type 0
  PhaseFits claim k phase.Ready = Unit {0}
  PhaseFits claim k phase.Holding = Unit {0}
  PhaseFits claim k (phase.Kept x found) = Unit {0}
  PhaseFits claim k phase.Lost = claim_word claim ≡ 1
  PhaseFits claim k phase.Claiming = claim ≡ out k
  PhaseFits claim k phase.Claimed = claim ≡ back k
  PhaseFits claim k (phase.Emptying xs) = ⊥
  PhaseFits claim k (phase.Emptied xs) = ⊥
  PhaseFits claim k (phase.Told xs j x) = ⊥

  -- the arrival that claimed
  abbrev pub ClaimFits : List (Phase X) → Claim → Type 0
  ClaimFits phases free = Unit {0}
  ClaimFits phases (out k) = get_elem? phases k ≡ maybe.some phase.Claiming
  ClaimFits phases (back k) = get_elem? phases k ≡ maybe.some phase.Claimed

  -- an arrival at this index, where all outcomes were kept and the last one has the list
  abbrev pub FullPhase : ℕ → List X → Bool → ℕ → Phase X → Type 0
  FullPhase last xs given k phase.Ready = ⊥
  FullPhase last xs given k phase.Holding = ⊥
  FullPhase last xs given k (phase.Kept x found) = get_elem? xs k ≡ maybe.some x
  FullPhase last xs given k phase.Lost = ⊥
  FullPhase last xs given k phase.Claiming = ⊥
  FullPhase last xs given k phase.Claimed = ⊥
  FullPhase last xs given k (phase.Emptying ys) = (k ≡ last) × (ys ≡ xs) × (given ≡ false)
  FullPhase last xs given k (phase.Emptied ys) = (k ≡ last) × (ys ≡ xs) × (given ≡ true)
  FullPhase last xs given k (phase.Told ys j x) = (k ≡ last) × (ys ≡ xs) × (given ≡ true) × (get_elem? xs j ≡ maybe.some x)

module _ {X E : Type 0} where
  -- a slot whose arrival is this far, while not all outcomes are kept
  abbrev pub home_of : Phase X → Home X E
  home_of phase.Ready = maybe.some None
  home_of phase.Holding = maybe.none
  home_of (phase.Kept x found) = maybe.some (Some (item.Outcome x))
  home_of phase.Lost = maybe.some None
  home_of phase.Claiming = maybe.some None
  home_of phase.Claimed = maybe.some None
  home_of (phase.Emptying xs) = maybe.some None
  home_of (phase.Emptied xs) = maybe.some None
  home_of (phase.Told xs k x) = maybe.some None

  -- the slot of the end
  abbrev pub end_home : Ending X E → Claim → Home X E
  end_home r free = maybe.some (Some (item.End r))
  end_home r (out k) = maybe.none
  end_home r (back k) = maybe.some None

  -- The desk isn't open: its one seat is about to put the end into its slot.
  pub record Unopened (s : DeskState X E) : Type 0 where
    pub size : ℕ
    pub words : s.words ≡ size ∷ 0 ∷ []
    pub stage :
        ((s.views ≡ view.Making ∷ []) × (s.homes ≡ map maybe.some (replicate (size + 1) None)))
        ⊎ ((s.views ≡ view.Opening ∷ []) × (s.homes ≡ map maybe.some (replicate size None) ++ maybe.none ∷ []))

  -- a seat's view, where these are the phases by index and there are so many seats
  abbrev pub GatheringView : ℕ → Ending X E → ℕ → List (Phase X) → ℕ → View X E → Type 0
  GatheringView size ending seats phases id view.Making = ⊥
  GatheringView size ending seats phases id view.Opening = ⊥
  GatheringView size ending seats phases id (view.Opened n r) = (n ≡ size) × (r ≡ ending) × (id ≡ 0) × (seats ≡ 1)
  GatheringView size ending seats phases id (view.Dealing n r d) = (n ≡ size) × (r ≡ ending) × (id ≡ 0) × (seats ≡ d + 2)
  GatheringView size ending seats phases id (view.Owner n r) = (n ≡ size) × (r ≡ ending)
  GatheringView size ending seats phases id (view.Arriving n r k p) = (n ≡ size) × (r ≡ ending) × (id ≡ k + 2) × (get_elem? phases k ≡ maybe.some p)
  GatheringView size ending seats phases id view.Clash = ⊥
  GatheringView size ending seats phases id view.Spent = ⊥

  -- Not all outcomes are kept. The phases of the arrivals by index decide what the words and the slots are. One that wasn't dealt is ready.
  pub record Gathering (s : DeskState X E) : Type 0 where
    pub size : ℕ
    pub ending : Ending X E
    pub phases : List (Phase X)
    pub claim : Claim
    pub long : length phases ≡ size
    pub words : s.words ≡ left_of phases ∷ claim_word claim ∷ []
    pub homes : s.homes ≡ map home_of phases ++ end_home ending claim ∷ []
    pub views : (id : ℕ) (v : View X E) → get_elem? s.views id ≡ maybe.some v → GatheringView size ending (length s.views) phases id v
    pub undealt : (k : ℕ) → k < size → length s.views ≤ k + 2 → get_elem? phases k ≡ maybe.some phase.Ready
    pub fits : (k : ℕ) (p : Phase X) → get_elem? phases k ≡ maybe.some p → PhaseFits claim k p
    pub claimer : ClaimFits phases claim

  -- each slot, where all outcomes were kept: out with the last arrival, or given back empty
  abbrev pub full_home : Bool → Home X E
  full_home false = maybe.none
  full_home true = maybe.some None

  abbrev pub FullView : ℕ → Ending X E → ℕ → List X → Bool → ℕ → View X E → Type 0
  FullView size ending last xs given id view.Making = ⊥
  FullView size ending last xs given id view.Opening = ⊥
  FullView size ending last xs given id (view.Opened n r) = ⊥
  FullView size ending last xs given id (view.Dealing n r d) = (n ≡ size) × (r ≡ ending) × (size ≤ d)
  FullView size ending last xs given id (view.Owner n r) = (n ≡ size) × (r ≡ ending)
  FullView size ending last xs given id (view.Arriving n r k p) = (n ≡ size) × (r ≡ ending) × (id ≡ k + 2) × FullPhase last xs given k p
  FullView size ending last xs given id view.Clash = ⊥
  FullView size ending last xs given id view.Spent = Unit {0}

  -- All outcomes were kept, and the arrival that was the last has taken them out. It has all slots, or has given them back empty.
  pub record Full (s : DeskState X E) : Type 0 where
    pub size : ℕ
    pub ending : Ending X E
    pub last : ℕ
    pub xs : List X
    pub given : Bool
    pub long : length xs ≡ size
    pub words : s.words ≡ 0 ∷ 0 ∷ []
    pub homes : s.homes ≡ replicate (size + 1) (full_home given)
    pub views : (id : ℕ) (v : View X E) → get_elem? s.views id ≡ maybe.some v → FullView size ending last xs given id v

  abbrev pub DeskHolds : DeskState X E → Type 0
  DeskHolds s = Unopened s ⊎ (Gathering s ⊎ Full s)
