-- What a home hands out when it is closed.
use Rattle.std.specs.Prelude.{◌≡◌, ◌≢◌, ◌↔◌, Bool, List, [], ◌∷◌, Option, Some, None}
use mathlib.Core.Option as maybe
use lib.ListN.{get_elem?}
use Rattle.fan_base.specs.declared.outcome.Try.{Try}
use Rattle.core_state.specs.declared.table.State.{State}
use Rattle.core_state.specs.declared.table.State.TheVariants as state
use Rattle.core_state.specs.Table.{code_of, waiting_state}
use Rattle.atomic_table.specs.Table.{Final}
use Rattle.core_word.specs.declared.view.Item.TheVariants as item
use Rattle.core_word.specs.declared.close.Unspent.{Unspent}
use Rattle.core_word.specs.Rule.{Held, StandsFor}
use Rattle.core_word.specs.Ends.{SeenEnd}

-- a state in which a callback waits, with the allowance to run inline or without it
abbrev pub IsWaiting : State → Type 0
IsWaiting s = (inline : Bool) × (s ≡ waiting_state inline)

module _ {T C P : Type 0} where
  -- the outcome in a slot, the callback, and the proxy
  abbrev pub outcome_of : Held T C P → Option (Try T)
  outcome_of None = None
  outcome_of (Some (item.Outcome r)) = Some r
  outcome_of (Some (item.Callback c)) = None
  outcome_of (Some (item.Proxy k)) = None

  abbrev pub callback_of : Held T C P → Option C
  callback_of None = None
  callback_of (Some (item.Outcome r)) = None
  callback_of (Some (item.Callback c)) = Some c.callback
  callback_of (Some (item.Proxy k)) = None

  abbrev pub proxy_of : Held T C P → Option P
  proxy_of None = None
  proxy_of (Some (item.Outcome r)) = None
  proxy_of (Some (item.Callback c)) = None
  proxy_of (Some (item.Proxy k)) = Some k

  -- an end of a home by the core rule: the state and the number of attached halves, and what the slots hold
  abbrev pub IsEnd : SeenEnd T C P → Type 0
  IsEnd end = Final StandsFor (code_of end.state ∷ end.attached ∷ []) end.slots

  -- A field has a value exactly where a half is attached, the state is the one in which such a value waits, and the slot of its kind held that value.
  pub record HandsOut (unspent : Unspent T C P) : Type 0 where
    pub outcome : (r : Try T) → (unspent.outcome ≡ Some r) ↔ ((unspent.end.attached ≢ 0) × (unspent.end.state ≡ state.OnlyResult) × (get_elem? unspent.end.slots 0 ≡ maybe.some (Some (item.Outcome r))))
    pub callback : (c : C) → (unspent.callback ≡ Some c) ↔ ((unspent.end.attached ≢ 0) × IsWaiting unspent.end.state × ((inline : Bool) × (get_elem? unspent.end.slots 1 ≡ maybe.some (Some (item.Callback record { callback = c; inline = inline })))))
    pub proxy : (k : P) → (unspent.proxy ≡ Some k) ↔ ((unspent.end.attached ≢ 0) × (unspent.end.state ≡ state.Proxy) × (get_elem? unspent.end.slots 2 ≡ maybe.some (Some (item.Proxy k))))

  -- nothing is handed out
  pub record HasNothing (unspent : Unspent T C P) : Type 0 where
    pub outcome : unspent.outcome ≡ None
    pub callback : unspent.callback ≡ None
    pub proxy : unspent.proxy ≡ None

  -- what a home hands out whose key was never taken
  abbrev pub NothingBegun : Unspent T C P → Type 0
  NothingBegun unspent = (unspent.end.state ≡ state.Start) × (unspent.end.attached ≡ 2) × HasNothing unspent
