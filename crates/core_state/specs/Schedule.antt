-- The acts of a core's two halves, and the lawful orders of them.
use Rattle.std.specs.Prelude.{◌≡◌, ℕ, suc, ◌-◌, ◌<◌, Bool, true, false, if◌then◌else◌, List, [], ◌∷◌, take, slice_get, Option, Some, None}
use Rattle.core_state.specs.declared.table.State.{State}
use Rattle.core_state.specs.declared.table.State.TheVariants.{Start, OnlyResult, Proxy, Done, Empty}
use Rattle.core_state.specs.declared.table.Act.{Act}
use Rattle.core_state.specs.declared.table.Act.TheVariants.{SetResult, SetProxy}
use Rattle.core_state.specs.declared.schedule.ProducerAct.{ProducerAct}
use Rattle.core_state.specs.declared.schedule.ProducerAct.TheVariants as by_producer
use Rattle.core_state.specs.declared.schedule.ConsumerAct.{ConsumerAct}
use Rattle.core_state.specs.declared.schedule.ConsumerAct.TheVariants as by_consumer
use Rattle.core_state.specs.declared.schedule.CoreAct.{CoreAct}
use Rattle.core_state.specs.declared.schedule.CoreAct.TheVariants as by
use Rattle.core_state.specs.declared.schedule.Half.{Half}
use Rattle.core_state.specs.declared.schedule.Half.TheVariants as the
use Rattle.core_state.specs.declared.schedule.Offer.{Offer}
use Rattle.core_state.specs.declared.schedule.Offer.TheVariants as offered
use Rattle.core_state.specs.declared.schedule.Demand.{Demand}
use Rattle.core_state.specs.declared.schedule.Demand.TheVariants as demanded
use Rattle.core_state.specs.declared.schedule.Request.{Request}
use Rattle.core_state.specs.Table.{state_after, waiting_state, setting_act}

module _ {R K : Type 0} where
  -- a producer sets a result or a proxy, and then leaves
  pub data IsProducerList : List (ProducerAct R K) → Type 0 where
    result_list : (r : R) → IsProducerList (by_producer.Result r ∷ by_producer.Leave ∷ [])
    proxy_list : (k : K) → IsProducerList (by_producer.Proxy k ∷ by_producer.Leave ∷ [])

module _ {C : Type 0} where
  -- a consumer sets a callback or gives up, and then leaves
  pub data IsConsumerList : List (ConsumerAct C) → Type 0 where
    callback_list : (c : Request C) → IsConsumerList (by_consumer.Callback c ∷ by_consumer.Leave ∷ [])
    give_up_list : IsConsumerList (by_consumer.GiveUp ∷ by_consumer.Leave ∷ [])

module _ {R K C : Type 0} where
  -- the acts of the two halves, in an order that keeps the order of each half
  pub data IsMerge : List (ProducerAct R K) → List (ConsumerAct C) → List (CoreAct R K C) → Type 0 where
    merged : IsMerge [] [] []
    producer_first : {p : ProducerAct R K} {ps : List (ProducerAct R K)} {cs : List (ConsumerAct C)} {schedule : List (CoreAct R K C)} → IsMerge ps cs schedule → IsMerge (p ∷ ps) cs (by.Producer p ∷ schedule)
    consumer_first : {c : ConsumerAct C} {ps : List (ProducerAct R K)} {cs : List (ConsumerAct C)} {schedule : List (CoreAct R K C)} → IsMerge ps cs schedule → IsMerge ps (c ∷ cs) (by.Consumer c ∷ schedule)

  -- any merge of a prefix of one producer list with a prefix of one consumer list
  pub record IsLawful (schedule : List (CoreAct R K C)) : Type 0 where
    pub producer : List (ProducerAct R K)
    pub consumer : List (ConsumerAct C)
    pub of_producer : IsProducerList producer
    pub of_consumer : IsConsumerList consumer
    pub produced : ℕ
    pub consumed : ℕ
    pub merge : IsMerge (take produced producer) (take consumed consumer) schedule

-- What the halves have set decides the state. Giving up and leaving don't count.
abbrev pub state_from : {R K C : Type 0} → Offer R K → Demand C → State
state_from offered.Nothing demanded.Nothing = Start
state_from (offered.Result r) demanded.Nothing = OnlyResult
state_from (offered.Proxy k) demanded.Nothing = Proxy
state_from offered.Nothing (demanded.Callback c) = waiting_state c.inline
state_from (offered.Result r) (demanded.Callback c) = Done
state_from (offered.Proxy k) (demanded.Callback c) = Empty

-- A callback that was set with the allowance may run inline where the producer completes the core, and so its result stands later.
abbrev pub inline_by : Half → Bool → Bool
inline_by the.Producer allows = allows
inline_by the.Consumer allows = false

-- what is left of a core that both halves have left: what the producer set, where the consumer set nothing
abbrev pub leftover_from : {R K C : Type 0} → Offer R K → Demand C → Offer R K
leftover_from offer demanded.Nothing = offer
leftover_from offer (demanded.Callback c) = offered.Nothing

-- the state after an exchange, if there is one
abbrev pub state_after_exchange : State → Option Act → Option State
state_after_exchange state (Some act) = state_after state act
state_after_exchange state None = Some state

module _ {R K C : Type 0} where
  -- what the producer sets in a schedule
  abbrev pub offer_in : List (CoreAct R K C) → Offer R K
  offer_in [] = offered.Nothing
  offer_in (by.Producer (by_producer.Result r) ∷ acts) = offered.Result r
  offer_in (by.Producer (by_producer.Proxy k) ∷ acts) = offered.Proxy k
  offer_in (by.Producer by_producer.Leave ∷ acts) = offer_in acts
  offer_in (by.Consumer c ∷ acts) = offer_in acts

  -- what the consumer sets in a schedule
  abbrev pub demand_in : List (CoreAct R K C) → Demand C
  demand_in [] = demanded.Nothing
  demand_in (by.Consumer (by_consumer.Callback c) ∷ acts) = demanded.Callback c
  demand_in (by.Consumer by_consumer.GiveUp ∷ acts) = demand_in acts
  demand_in (by.Consumer by_consumer.Leave ∷ acts) = demand_in acts
  demand_in (by.Producer p ∷ acts) = demand_in acts

  -- the state that a schedule stands for
  abbrev pub state_of : List (CoreAct R K C) → State
  state_of acts = state_from (offer_in acts) (demand_in acts)

  -- the exchange of the state that an act makes, if it makes one
  abbrev pub exchange_of : CoreAct R K C → Option Act
  exchange_of (by.Producer (by_producer.Result r)) = Some SetResult
  exchange_of (by.Producer (by_producer.Proxy k)) = Some SetProxy
  exchange_of (by.Producer by_producer.Leave) = None
  exchange_of (by.Consumer (by_consumer.Callback c)) = Some (setting_act c.inline)
  exchange_of (by.Consumer by_consumer.GiveUp) = None
  exchange_of (by.Consumer by_consumer.Leave) = None

  -- the fold of the table over the exchanges of a schedule; None from where an exchange meets no row
  abbrev pub run : Option State → List (CoreAct R K C) → Option State
  run found [] = found
  run (Some state) (act ∷ acts) = run (state_after_exchange state (exchange_of act)) acts
  run None (act ∷ acts) = None

  -- the fold of the table over a schedule, from the state in which a core begins
  abbrev pub fold_of : List (CoreAct R K C) → Option State
  fold_of schedule = run (Some Start) schedule

  -- of two acts of a schedule one stands before the other
  abbrev pub StandsBefore : List (CoreAct R K C) → CoreAct R K C → CoreAct R K C → Type 0
  StandsBefore schedule early late = (i : ℕ) × (j : ℕ) × (i < j) × (slice_get schedule i ≡ Some early) × (slice_get schedule j ≡ Some late)

  -- of an act of the producer and an act of the consumer, this half's stands later
  abbrev pub IsLater : List (CoreAct R K C) → Half → ProducerAct R K → ConsumerAct C → Type 0
  IsLater schedule the.Producer p c = StandsBefore schedule (by.Consumer c) (by.Producer p)
  IsLater schedule the.Consumer p c = StandsBefore schedule (by.Producer p) (by.Consumer c)

  -- The hand-over of a result and a callback, made by the half whose act stands later. It says whether the callback may run inline there.
  abbrev pub HandOver : List (CoreAct R K C) → Half → R → C → Bool → Type 0
  HandOver schedule half r c inline = (request : Request C) × IsLater schedule half (by_producer.Result r) (by_consumer.Callback request) × (c ≡ request.callback) × (inline ≡ inline_by half request.inline)

  -- The forwarding of a callback, with its allowance or none, to the core that a proxy names, made in the same way.
  abbrev pub Forwarding : List (CoreAct R K C) → Half → Request C → K → Type 0
  Forwarding schedule half request k = IsLater schedule half (by_producer.Proxy k) (by_consumer.Callback request)

  -- the freeing of the core, at the later of the two leaves
  abbrev pub Frees : List (CoreAct R K C) → Half → Type 0
  Frees schedule half = IsLater schedule half by_producer.Leave by_consumer.Leave

  -- the leave of a half
  abbrev pub leave_of : Half → CoreAct R K C
  leave_of the.Producer = by.Producer by_producer.Leave
  leave_of the.Consumer = by.Consumer by_consumer.Leave

  -- how many leaves stand in a schedule
  abbrev pub leaves_in : List (CoreAct R K C) → ℕ
  leaves_in [] = 0
  leaves_in (by.Producer (by_producer.Result r) ∷ acts) = leaves_in acts
  leaves_in (by.Producer (by_producer.Proxy k) ∷ acts) = leaves_in acts
  leaves_in (by.Producer by_producer.Leave ∷ acts) = suc (leaves_in acts)
  leaves_in (by.Consumer (by_consumer.Callback c) ∷ acts) = leaves_in acts
  leaves_in (by.Consumer by_consumer.GiveUp ∷ acts) = leaves_in acts
  leaves_in (by.Consumer by_consumer.Leave ∷ acts) = suc (leaves_in acts)

  -- how many halves are attached: two, less one for each leave
  abbrev pub attached_after : List (CoreAct R K C) → ℕ
  attached_after acts = 2 - leaves_in acts

  -- the consumer gives up in a schedule
  abbrev pub gives_up : List (CoreAct R K C) → Bool
  gives_up [] = false
  gives_up (by.Consumer (by_consumer.Callback c) ∷ acts) = gives_up acts
  gives_up (by.Consumer by_consumer.GiveUp ∷ acts) = true
  gives_up (by.Consumer by_consumer.Leave ∷ acts) = gives_up acts
  gives_up (by.Producer p ∷ acts) = gives_up acts

  -- what is left of a freed core: the result or the proxy of the producer where the consumer gave up, else nothing
  abbrev pub leftover_of : List (CoreAct R K C) → Offer R K
  leftover_of schedule = if gives_up schedule then offer_in schedule else offered.Nothing
