-- The end of a home: its closed memory, and what contracts see of it.
use Rattle.std.specs.Prelude.{◌≡◌, ℕ, zero, suc, ◌<◌, false, List, slice_index, slice_index_or}
use Rattle.std.specs.Slots.{slots_len, slots_items, slots_filled, IsFull}
use Rattle.core_state.specs.declared.table.State.{State}
use Rattle.core_state.specs.declared.table.State.TheVariants as state
use Rattle.atomic_table.specs.Table.{Final}
use Rattle.atomic_table.specs.declared.owned.Closed.{Closed}
use Rattle.core_word.specs.Rule.{Held, StandsFor}

-- the state whose code a word is
abbrev pub state_of_code : ℕ → State
state_of_code zero = state.Start
state_of_code (suc zero) = state.OnlyResult
state_of_code (suc (suc zero)) = state.OnlyCallback
state_of_code (suc (suc (suc zero))) = state.Proxy
state_of_code (suc (suc (suc (suc zero)))) = state.Done
state_of_code (suc (suc (suc (suc (suc zero))))) = state.Empty
state_of_code (suc (suc (suc (suc (suc (suc n)))))) = state.OnlyCallbackAllowInline

-- the state and the number of attached halves, as the words of a home say them
abbrev pub state_in : List ℕ → State
state_in words = state_of_code (slice_index words 0)

abbrev pub attached_in : List ℕ → ℕ
attached_in words = slice_index words 1

-- the end of a home: what its words said, and what its slots held
pub record SeenEnd (T C P : Type 0) : Type 0 where
  pub state : State
  pub attached : ℕ
  pub slots : List (Held T C P)

module _ {T C P A : Type 0} where
  -- a closed home whose slots were emptied
  pub record Ended (closed : Closed (Held T C P) A) : Type 0 where
    pub words : slots_len closed.words ≡ 2
    pub slots : slots_len closed.slots ≡ 3
    pub full : IsFull closed.words
    pub empty : (k : ℕ) → k < slots_len closed.slots → slice_index_or (slots_filled closed.slots) k false ≡ false
    pub final : Final StandsFor (slots_items closed.words) (slots_items closed.slots)
