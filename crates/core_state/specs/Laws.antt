-- What holds of every lawful schedule.
use Rattle.std.specs.Prelude.{◌≡◌, ℕ, suc, ◌≤◌, ◌⊎◌, ◌↔◌, Bool, false, List, take, slice_get, Some, None}
use Rattle.core_state.specs.declared.table.State.{State}
use Rattle.core_state.specs.declared.table.State.TheVariants.{OnlyResult, Proxy, Done, Empty}
use Rattle.core_state.specs.declared.table.Act.{Act}
use Rattle.core_state.specs.declared.schedule.ProducerAct.{ProducerAct}
use Rattle.core_state.specs.declared.schedule.ProducerAct.TheVariants as by_producer
use Rattle.core_state.specs.declared.schedule.ConsumerAct.{ConsumerAct}
use Rattle.core_state.specs.declared.schedule.ConsumerAct.TheVariants as by_consumer
use Rattle.core_state.specs.declared.schedule.CoreAct.{CoreAct}
use Rattle.core_state.specs.declared.schedule.CoreAct.TheVariants as by
use Rattle.core_state.specs.declared.schedule.Half.{Half}
use Rattle.core_state.specs.declared.schedule.Half.TheVariants as the
use Rattle.core_state.specs.declared.schedule.Offer.TheVariants as offered
use Rattle.core_state.specs.declared.schedule.Request.{Request}
use Rattle.core_state.specs.Table.{state_after, waiting_state}
use Rattle.core_state.specs.Schedule.{state_of, exchange_of, state_after_exchange, fold_of, offer_in, demand_in, HandOver, Forwarding, inline_by, leave_of, attached_after, Frees, leftover_of, leftover_from}

-- a fact that holds for one half and not for the other
abbrev pub OfOneHalf : (Half → Type 0) → Type 0
OfOneHalf P = (half : Half) × P half × ((other : Half) → P other → other ≡ half)

-- a state that no row of the table leaves
abbrev pub IsFinal : State → Type 0
IsFinal state = (act : Act) → state_after state act ≡ None

module _ {R K C : Type 0} where
  abbrev pub result_of : R → CoreAct R K C
  result_of r = by.Producer (by_producer.Result r)

  abbrev pub proxy_of : K → CoreAct R K C
  proxy_of k = by.Producer (by_producer.Proxy k)

  abbrev pub callback_of : Request C → CoreAct R K C
  callback_of c = by.Consumer (by_consumer.Callback c)

  module _ (acts : List (CoreAct R K C)) where
    -- the n-th act finds the state of the acts before it, and makes that of the acts up to it
    abbrev pub FindsEachState : Type 0
    FindsEachState = (n : ℕ) (act : CoreAct R K C) → slice_get acts n ≡ Some act
        → state_after_exchange (state_of (take n acts)) (exchange_of act) ≡ Some (state_of (take (suc n) acts))

    -- from where the fold has given Done or Empty, it gives that
    abbrev pub StaysFinal : Type 0
    StaysFinal = (n m : ℕ) (state : State) → (state ≡ Done) ⊎ (state ≡ Empty) → n ≤ m → fold_of (take n acts) ≡ Some state → fold_of (take m acts) ≡ Some state

    -- an act stands in the schedule
    abbrev pub Stands : CoreAct R K C → Type 0
    Stands act = (n : ℕ) × (slice_get acts n ≡ Some act)

    -- a hand-over is made
    abbrev pub IsHandedOver : Type 0
    IsHandedOver = (half : Half) × (r : R) × (c : C) × (inline : Bool) × HandOver acts half r c inline

    -- a forwarding is made
    abbrev pub IsForwarded : Type 0
    IsForwarded = (half : Half) × (c : Request C) × (k : K) × Forwarding acts half c k

    abbrev pub HandsOverOnce : Type 0
    HandsOverOnce = (i j : ℕ) (r : R) (c : Request C) → slice_get acts i ≡ Some (result_of r) → slice_get acts j ≡ Some (callback_of c)
        → OfOneHalf (λ half. HandOver acts half r c.callback (inline_by half c.inline))

    abbrev pub ForwardsOnce : Type 0
    ForwardsOnce = (i j : ℕ) (k : K) (c : Request C) → slice_get acts i ≡ Some (proxy_of k) → slice_get acts j ≡ Some (callback_of c)
        → OfOneHalf (λ half. Forwarding acts half c k)

    abbrev pub FreesOnce : Type 0
    FreesOnce = (i j : ℕ) → slice_get acts i ≡ Some (leave_of the.Producer) → slice_get acts j ≡ Some (leave_of the.Consumer)
        → OfOneHalf (Frees acts)

    -- a leave finds one half attached exactly where it is the later one, and else it finds two
    abbrev pub LastFindsOne : Type 0
    LastFindsOne = (n : ℕ) (half : Half) → slice_get acts n ≡ Some (leave_of half)
        → ((attached_after (take n acts) ≡ 1) ↔ Frees (take (suc n) acts) half) × ((attached_after (take n acts) ≡ 1) ⊎ (attached_after (take n acts) ≡ 2))

    abbrev pub LeavesOffer : Type 0
    LeavesOffer = (half : Half) → Frees acts half → leftover_of acts ≡ leftover_from (offer_in acts) (demand_in acts)

  -- each half leaves once, and has one act beside that; there is one hand-over at most, and one forwarding
  pub record ComesOnce (acts : List (CoreAct R K C)) : Type 0 where
    pub producer : (i j : ℕ) (p q : ProducerAct R K) → slice_get acts i ≡ Some (by.Producer p) → slice_get acts j ≡ Some (by.Producer q) → (p ≡ by_producer.Leave) ↔ (q ≡ by_producer.Leave) → i ≡ j
    pub consumer : (i j : ℕ) (c d : ConsumerAct C) → slice_get acts i ≡ Some (by.Consumer c) → slice_get acts j ≡ Some (by.Consumer d) → (c ≡ by_consumer.Leave) ↔ (d ≡ by_consumer.Leave) → i ≡ j
    pub hand_over : (half other : Half) (r q : R) (c d : C) (a b : Bool) → HandOver acts half r c a → HandOver acts other q d b → (other ≡ half) × (q ≡ r) × (d ≡ c) × (b ≡ a)
    pub forwarding : (half other : Half) (c d : Request C) (k q : K) → Forwarding acts half c k → Forwarding acts other d q → (other ≡ half) × (d ≡ c) × (q ≡ k)

  -- the half whose exchange finds what the other half has set is the one that hands over, or forwards
  pub record FindsOther (acts : List (CoreAct R K C)) : Type 0 where
    pub result : (n : ℕ) (r : R) (inline : Bool) → slice_get acts n ≡ Some (result_of r) → (state_of (take n acts) ≡ waiting_state inline) ↔ ((c : C) × HandOver (take (suc n) acts) the.Producer r c inline)
    pub proxy : (n : ℕ) (k : K) (inline : Bool) → slice_get acts n ≡ Some (proxy_of k) → (state_of (take n acts) ≡ waiting_state inline) ↔ ((c : C) × Forwarding (take (suc n) acts) the.Producer record { callback = c; inline = inline } k)
    pub callback : (n : ℕ) (c : Request C) → slice_get acts n ≡ Some (callback_of c) → (state_of (take n acts) ≡ OnlyResult) ↔ ((r : R) × HandOver (take (suc n) acts) the.Consumer r c.callback false)
    pub callback_passed_on : (n : ℕ) (c : Request C) → slice_get acts n ≡ Some (callback_of c) → (state_of (take n acts) ≡ Proxy) ↔ ((k : K) × Forwarding (take (suc n) acts) the.Consumer c k)

  -- Nothing that was set is lost: of a freed core the result was handed over or is left over, the proxy was used or is left over,
  -- and the callback was handed over or forwarded. What was handed over or forwarded is not left over.
  pub record IsAccounted (acts : List (CoreAct R K C)) : Type 0 where
    pub result : (half : Half) (r : R) → Frees acts half → Stands acts (result_of r) → ((maker : Half) × (c : C) × (inline : Bool) × HandOver acts maker r c inline) ⊎ (leftover_of acts ≡ offered.Result r)
    pub proxy : (half : Half) (k : K) → Frees acts half → Stands acts (proxy_of k) → ((maker : Half) × (c : Request C) × Forwarding acts maker c k) ⊎ (leftover_of acts ≡ offered.Proxy k)
    pub callback : (half : Half) (c : Request C) → Frees acts half → Stands acts (callback_of c) → ((maker : Half) × (r : R) × HandOver acts maker r c.callback (inline_by maker c.inline)) ⊎ ((maker : Half) × (k : K) × Forwarding acts maker c k)
    pub handed_over : (maker : Half) (r : R) (c : C) (inline : Bool) → HandOver acts maker r c inline → leftover_of acts ≡ offered.Nothing
    pub forwarded : (maker : Half) (c : Request C) (k : K) → Forwarding acts maker c k → leftover_of acts ≡ offered.Nothing
