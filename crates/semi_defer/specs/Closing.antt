-- What a home hands out when it is closed.
use Rattle.std.specs.Prelude.{◌≡◌, ℕ, ◌+◌, ◌<◌, ◌^◌, false, List, [], ◌∷◌, slice_index_or, Option, None}
use Rattle.std.specs.Slots.{slots_len, slots_filled, IsFull}
use Rattle.atomic_table.specs.Table.{Final}
use Rattle.atomic_table.specs.declared.owned.Closed.{Closed}
use Rattle.semi_defer.specs.declared.state.State.{State}
use Rattle.semi_defer.specs.State.{code_of}
use Rattle.semi_defer.specs.Seen.{RemainsSeen}
use Rattle.semi_defer.specs.Rule.{DeferHolds}

-- a word that stands for a state
pub record IsWord (word : ℕ) : Type 0 where
  pub state : State
  pub is : word ≡ code_of state
  pub small : word < 2 ^ 32 + 3

module _ {J : Type 0} where
  -- an end of a home by the deferral rule: the word, and what the slot holds, which is as the rule says where it was at home
  pub record IsEnd (remains : RemainsSeen J) : Type 0 where
    pub final : Final DeferHolds (remains.word ∷ []) (remains.job ∷ [])

  -- nothing was begun
  abbrev pub AreUntouched : List ℕ → List (Option J) → Type 0
  AreUntouched words slots = (words ≡ 0 ∷ []) × (slots ≡ None ∷ [])

  -- the one slot is taken, and the word is there
  pub record IsEmptied {A : Type 0} (closed : Closed (Option J) A) : Type 0 where
    pub words : slots_len closed.words ≡ 1
    pub full : IsFull closed.words
    pub slots : slots_len closed.slots ≡ 1
    pub empty : slice_index_or (slots_filled closed.slots) 0 false ≡ false
