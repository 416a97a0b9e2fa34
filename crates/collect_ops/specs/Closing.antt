-- What a desk hands out when it is closed.
use Rattle.std.specs.Prelude.{◌≡◌, ◌⊎◌, ℕ, zero, suc, ◌+◌, ◌<◌, ◌≤◌, true, false, List, [], ◌∷◌, take, drop, slice_index_or, Option, Some, None}
use Rattle.std.specs.Slots.{slots_len, slots_items, slots_filled}
use mathlib.Core.Option as maybe
use lib.ListN.{get_elem?}
use Rattle.atomic_table.specs.Table.{Final}
use Rattle.atomic_table.specs.declared.owned.Closed.{Closed}
use Rattle.collect_ops.specs.declared.view.Ending.{Ending}
use Rattle.collect_ops.specs.declared.view.Item.TheVariants as item
use Rattle.collect_ops.specs.Seen.{DeskId, KeptSeen}
use Rattle.collect_ops.specs.Rule.{Held, DeskState, Gathering, Full}

-- the end, where some arrivals were left and nobody had claimed: else an arrival got it
abbrev pub unclaimed : {E : Type 0} → ℕ → ℕ → Option E → Option E
unclaimed zero claimed end = None
unclaimed (suc left) zero end = end
unclaimed (suc left) (suc claimed) end = None

-- the outcomes, where some arrivals were left: else the last one got them
abbrev pub uncounted : {X : Type 0} → ℕ → List X → List X
uncounted zero outcomes = []
uncounted (suc left) outcomes = outcomes

module _ {X E : Type 0} where
  -- the outcome in a slot, if it has one
  abbrev pub held_outcome : Held X E → Option X
  held_outcome None = None
  held_outcome (Some (item.Outcome x)) = Some x
  held_outcome (Some (item.End r)) = None

  -- the end in a slot, if it has it
  abbrev pub held_end : Held X E → Option E
  held_end None = None
  held_end (Some (item.Outcome x)) = None
  held_end (Some (item.End r)) = Some r.end

  -- the outcomes in these slots
  abbrev pub kept_in_slots : List (Held X E) → List X
  kept_in_slots [] = []
  kept_in_slots (None ∷ hs) = kept_in_slots hs
  kept_in_slots (Some (item.Outcome x) ∷ hs) = x ∷ kept_in_slots hs
  kept_in_slots (Some (item.End r) ∷ hs) = kept_in_slots hs

  -- the outcomes in the slots from this one to the one of the end
  abbrev pub kept_from : ℕ → ℕ → List (Held X E) → List X
  kept_from next size slots = kept_in_slots (drop next (take size slots))

  -- the table's last state is one of a desk of this size and with this ending
  abbrev pub IsOf : ℕ → Ending X E → DeskState X E → Type 0
  IsOf size r s = ((b : Gathering s) × (b.size ≡ size) × (b.ending ≡ r)) ⊎ ((b : Full s) × (b.size ≡ size) × (b.ending ≡ r))

  -- the words and slots of a desk at which nobody has arrived
  pub record IsUntouched (size : ℕ) (r : Ending X E) (words : List ℕ) (slots : List (Held X E)) : Type 0 where
    pub words_are : words ≡ size ∷ 0 ∷ []
    pub empty : (k : ℕ) → k < size → get_elem? slots k ≡ maybe.some None
    pub ending : get_elem? slots size ≡ maybe.some (Some (item.End r))

  -- what a table's last state says of a desk whose completion hands out this end
  pub record Closes (size : ℕ) (end : Option E) (words : List ℕ) (slots : List (Held X E)) : Type 0 where
    pub ending : Ending X E
    pub same : end ≡ Some ending.end
    pub last : Final (IsOf size ending) words slots

  pub record ClosesUntouched (size : ℕ) (end : Option E) (words : List ℕ) (slots : List (Held X E)) : Type 0 where
    pub ending : Ending X E
    pub same : end ≡ Some ending.end
    pub untouched : IsUntouched size ending words slots

  module _ {A : Type 0} where
    -- the slots of a closed desk from this one to that of the end are still there
    pub record Rests (next size : ℕ) (closed : Closed (Held X E) A) : Type 0 where
      pub long : slots_len closed.slots ≡ size + 1
      pub within : next ≤ size
      pub full : (k : ℕ) → next ≤ k → k < size → slice_index_or (slots_filled closed.slots) k false ≡ true
      pub taken : (k : ℕ) → k < next → slice_index_or (slots_filled closed.slots) k false ≡ false
      pub end : slice_index_or (slots_filled closed.slots) size false ≡ false

    -- the words and what the slots held are the same
    pub record SameSlots (before after : Closed (Held X E) A) : Type 0 where
      pub items : slots_items after.slots ≡ slots_items before.slots
      pub words : after.words ≡ before.words

  -- The words are those of a last state, and the outcomes and the end are what its slots held.
  pub record EndsAs (desk : DeskId E) (kept : KeptSeen X E) : Type 0 where
    pub slots : List (Held X E)
    pub closes : Closes desk.size desk.end (kept.left ∷ kept.claimed ∷ []) slots
    pub outcomes : kept.outcomes ≡ uncounted kept.left (kept_from 0 desk.size slots)
    pub held : Held X E
    pub in_last : get_elem? slots desk.size ≡ maybe.some held
    pub end : kept.end ≡ unclaimed kept.left kept.claimed (held_end held)
