-- The core rule: what the words, the slots at home and the views of a home's table stand for between any two steps.
use Rattle.std.specs.Prelude.{◌≡◌, ◌≢◌, ℕ, suc, ◌+◌, ◌<◌, ◌⊎◌, Bool, true, false, ◌||◌, List, [], ◌∷◌, Option, Some, None}
use mathlib.Core.Option as maybe
use lib.ListN.{get_elem?}
use Rattle.fan_base.specs.declared.outcome.Try.{Try}
use Rattle.core_state.specs.declared.table.State.TheVariants as state
use Rattle.core_state.specs.declared.schedule.Request.{Request}
use Rattle.core_state.specs.declared.schedule.Offer.{Offer}
use Rattle.core_state.specs.declared.schedule.Offer.TheVariants as offered
use Rattle.core_state.specs.declared.schedule.Demand.{Demand}
use Rattle.core_state.specs.declared.schedule.Demand.TheVariants as demanded
use Rattle.core_state.specs.Table.{code_of}
use Rattle.core_state.specs.Schedule.{state_from}
use Rattle.atomic_table.specs.Table.{State}
use Rattle.core_word.specs.declared.view.Item.{Item}
use Rattle.core_word.specs.declared.view.Item.TheVariants as item
use Rattle.core_word.specs.declared.view.Departure.{Departure}
use Rattle.core_word.specs.declared.view.Departure.TheVariants as departed
use Rattle.core_word.specs.declared.view.Sight.{Sight}
use Rattle.core_word.specs.declared.view.Sight.TheVariants as seen
use Rattle.core_word.specs.declared.view.Learned.{Learned}
use Rattle.core_word.specs.declared.view.ProducerPhase.{ProducerPhase}
use Rattle.core_word.specs.declared.view.ProducerPhase.TheVariants as producer
use Rattle.core_word.specs.declared.view.ConsumerPhase.{ConsumerPhase}
use Rattle.core_word.specs.declared.view.ConsumerPhase.TheVariants as consumer
use Rattle.core_word.specs.declared.view.View.{View}
use Rattle.core_word.specs.declared.view.View.TheVariants as view
use Rattle.core_word.specs.Views.{attached, offer_of, demand_of, producer_left, consumer_left, Knows, producer_has_result, producer_has_callback, producer_has_proxy, consumer_has_result, consumer_has_callback, consumer_has_proxy}

-- what a slot holds, and a slot of the table: out with a seat, or at home with what it holds
abbrev pub Held : Type 0 → Type 0 → Type 0 → Type 0
Held T C P = Option (Item T C P)

abbrev pub Home : Type 0 → Type 0 → Type 0 → Type 0
Home T C P = maybe.Option (Held T C P)

-- the state of a table whose slots hold items and whose seats have views of a core
abbrev pub TableState : Type 0 → Type 0 → Type 0 → Type 0
TableState T C P = State (Held T C P) (View T C P)

abbrev pub IsSet : {R K : Type 0} → Offer R K → Type 0
IsSet offered.Nothing = ⊥
IsSet (offered.Result r) = Unit {0}
IsSet (offered.Proxy k) = Unit {0}

-- One that left while the other had not is First, and one that left after it is Last. A half that has left has acted, or is a consumer that gave up.
abbrev pub LeavesFit : Departure → Departure → Type 0
LeavesFit departed.No departed.No = Unit {0}
LeavesFit departed.No departed.First = Unit {0}
LeavesFit departed.No departed.Last = ⊥
LeavesFit departed.First departed.No = Unit {0}
LeavesFit departed.First departed.First = ⊥
LeavesFit departed.First departed.Last = Unit {0}
LeavesFit departed.Last departed.No = ⊥
LeavesFit departed.Last departed.First = Unit {0}
LeavesFit departed.Last departed.Last = ⊥

module _ {T C P : Type 0} where
  abbrev pub home : Bool → Held T C P → Home T C P
  home true held = maybe.none
  home false held = maybe.some held

  -- A result is at home where the producer set it and the consumer set no callback.
  abbrev pub result_held : Offer (Try T) P → Demand C → Held T C P
  result_held offered.Nothing demand = None
  result_held (offered.Result r) demanded.Nothing = Some (item.Outcome r)
  result_held (offered.Result r) (demanded.Callback c) = None
  result_held (offered.Proxy k) demand = None

  -- A callback is at home where the consumer set it and the producer set nothing.
  abbrev pub callback_held : Offer (Try T) P → Demand C → Held T C P
  callback_held offered.Nothing demanded.Nothing = None
  callback_held offered.Nothing (demanded.Callback c) = Some (item.Callback c)
  callback_held (offered.Result r) demand = None
  callback_held (offered.Proxy k) demand = None

  -- A proxy is at home where the producer set it and the consumer set no callback.
  abbrev pub proxy_held : Offer (Try T) P → Demand C → Held T C P
  proxy_held offered.Nothing demand = None
  proxy_held (offered.Result r) demand = None
  proxy_held (offered.Proxy k) demanded.Nothing = Some (item.Proxy k)
  proxy_held (offered.Proxy k) (demanded.Callback c) = None

  -- The state word is the code of the state that the acts of both halves stand for. The count word is how many are attached.
  abbrev pub words_of : ProducerPhase T C P → ConsumerPhase T C P → List ℕ
  words_of p c = code_of (state_from (offer_of p) (demand_of c)) ∷ (attached (producer_left p) + attached (consumer_left c)) ∷ []

  -- the slots for the result, the callback and the proxy
  abbrev pub homes_of : ProducerPhase T C P → ConsumerPhase T C P → List (Home T C P)
  homes_of p c =
      home (producer_has_result p || consumer_has_result c) (result_held (offer_of p) (demand_of c))
      ∷ home (producer_has_callback p || consumer_has_callback c) (callback_held (offer_of p) (demand_of c))
      ∷ home (producer_has_proxy p || consumer_has_proxy c) (proxy_held (offer_of p) (demand_of c))
      ∷ []

  -- the consumer has found nothing that the producer set
  abbrev pub FoundNothing : ConsumerPhase T C P → Type 0
  FoundNothing consumer.Ready = Unit {0}
  FoundNothing consumer.Holding = Unit {0}
  FoundNothing (consumer.Aware s) = ⊥
  FoundNothing (consumer.Acted demand got left) = got ≡ offered.Nothing

  -- The consumer's callback waits, set before the producer acted, with the allowance to run inline or without it.
  abbrev pub Waits : Bool → ConsumerPhase T C P → Type 0
  Waits inline consumer.Ready = ⊥
  Waits inline consumer.Holding = ⊥
  Waits inline (consumer.Aware s) = ⊥
  Waits inline (consumer.Acted demanded.Nothing got left) = ⊥
  Waits inline (consumer.Acted (demanded.Callback c) got left) = (c.inline ≡ inline) × (got ≡ offered.Nothing)

  -- what a producer has learned of its consumer is true
  abbrev pub SightFits : Sight → ConsumerPhase T C P → Type 0
  SightFits seen.Unseen c = Unit {0}
  SightFits seen.NoCallback c = Unit {0}
  SightFits seen.Callback c = (inline : Bool) × Waits inline c
  SightFits seen.CallbackLeft c = ((inline : Bool) × Waits inline c) × (consumer_left c ≡ departed.First)

  -- the consumer, where the producer set this offer and found nothing
  abbrev pub FitsOffer : Offer (Try T) P → ConsumerPhase T C P → Type 0
  FitsOffer offer consumer.Ready = Unit {0}
  FitsOffer offer consumer.Holding = Unit {0}
  FitsOffer offer (consumer.Aware s) = s ≡ state_from {C = C} offer demanded.Nothing
  FitsOffer offer (consumer.Acted demanded.Nothing got left) = got ≡ offered.Nothing
  FitsOffer offer (consumer.Acted (demanded.Callback c) got left) = got ≡ offer

  -- the consumer, where the producer found this callback
  abbrev pub FitsCallback : Request C → ConsumerPhase T C P → Type 0
  FitsCallback found consumer.Ready = ⊥
  FitsCallback found consumer.Holding = ⊥
  FitsCallback found (consumer.Aware s) = ⊥
  FitsCallback found (consumer.Acted demanded.Nothing got left) = ⊥
  FitsCallback found (consumer.Acted (demanded.Callback c) got left) = (c ≡ found) × (got ≡ offered.Nothing)

  -- Where one half alone has acted, it found nothing. Where both have, one found nothing, and the other found the first one's act.
  -- A half that has seen a state and hasn't acted: it is the state.
  abbrev pub ActsFit : ProducerPhase T C P → ConsumerPhase T C P → Type 0
  ActsFit producer.Ready c = FoundNothing c
  ActsFit (producer.Holding o) c = FoundNothing c
  ActsFit (producer.Aware o a) c = Waits a c
  ActsFit (producer.Acted offer demanded.Nothing left) c = IsSet offer × FitsOffer offer c
  ActsFit (producer.Acted offer (demanded.Callback found) left) c = IsSet offer × FitsCallback found c

  abbrev pub Fit : ProducerPhase T C P → ConsumerPhase T C P → Type 0
  Fit p c = ActsFit p c × LeavesFit (producer_left p) (consumer_left c)

  -- A view of a use below this number: the half was the first to leave it. Or a seat that was put into another.
  abbrev pub IsPast : ℕ → View T C P → Type 0
  IsPast number (view.Key n) = ⊥
  IsPast number (view.Producer n p learned) = (n < number) × (producer_left p ≡ departed.First)
  IsPast number (view.Consumer n c) = (n < number) × (consumer_left c ≡ departed.First)
  IsPast number (view.Husk n offer demand) = ⊥
  IsPast number (view.Reopening n) = ⊥
  IsPast number (view.Joined n p c) = ⊥
  IsPast number view.Spent = Unit {0}
  IsPast number view.Clash = ⊥

  -- the view of the half that was the first to leave this use
  abbrev pub IsFirstOf : ℕ → View T C P → Type 0
  IsFirstOf number (view.Key n) = ⊥
  IsFirstOf number (view.Producer n p learned) = (n ≡ number) × (producer_left p ≡ departed.First)
  IsFirstOf number (view.Consumer n c) = (n ≡ number) × (consumer_left c ≡ departed.First)
  IsFirstOf number (view.Husk n offer demand) = ⊥
  IsFirstOf number (view.Reopening n) = ⊥
  IsFirstOf number (view.Joined n p c) = ⊥
  IsFirstOf number view.Spent = ⊥
  IsFirstOf number view.Clash = ⊥

  -- Of each use one seat at most has the view of a half that was the first to leave it.
  abbrev pub OneFirst : List (View T C P) → Type 0
  OneFirst views = (number j k : ℕ) (v w : View T C P) → get_elem? views j ≡ maybe.some v → get_elem? views k ≡ maybe.some w → IsFirstOf number v → IsFirstOf number w → j ≡ k

  -- Nobody has begun the greatest use: one seat has its key. All slots are at home and empty.
  pub record Unbegun (s : TableState T C P) : Type 0 where
    pub seat : ℕ
    pub number : ℕ
    pub at : get_elem? s.views seat ≡ maybe.some (view.Key number)
    pub others : (k : ℕ) (v : View T C P) → k ≢ seat → get_elem? s.views k ≡ maybe.some v → IsPast number v
    pub words : s.words ≡ code_of state.Start ∷ 2 ∷ []
    pub homes : s.homes ≡ maybe.some None ∷ maybe.some None ∷ maybe.some None ∷ []
    pub once : OneFirst s.views

  -- One producer and one consumer have the greatest use, and decide what the words and the slots are.
  pub record Begun (s : TableState T C P) : Type 0 where
    pub producer : ℕ
    pub consumer : ℕ
    pub apart : producer ≢ consumer
    pub number : ℕ
    pub p : ProducerPhase T C P
    pub learned : Learned
    pub c : ConsumerPhase T C P
    pub at_p : get_elem? s.views producer ≡ maybe.some (view.Producer number p learned)
    pub at_c : get_elem? s.views consumer ≡ maybe.some (view.Consumer number c)
    pub others : (k : ℕ) (v : View T C P) → k ≢ producer → k ≢ consumer → get_elem? s.views k ≡ maybe.some v → IsPast number v
    pub words : s.words ≡ words_of p c
    pub homes : s.homes ≡ homes_of p c
    pub fit : Fit p c
    pub sees : SightFits learned.sight c
    pub once : OneFirst s.views

  -- Both have left the greatest use. The last leaver has read the state, so it knows what both have set, and has all slots. The first leaver's view still tells its act.
  pub record Over (s : TableState T C P) : Type 0 where
    pub last : ℕ
    pub first : ℕ
    pub apart : last ≢ first
    pub number : ℕ
    pub offer : Offer (Try T) P
    pub demand : Demand C
    pub set : IsSet offer
    pub at_last : get_elem? s.views last ≡ maybe.some (view.Husk number offer demand)
    pub v : View T C P
    pub at_first : get_elem? s.views first ≡ maybe.some v
    pub left : IsFirstOf number v
    pub knows : Knows v offer demand
    pub others : (k : ℕ) (v : View T C P) → k ≢ last → k ≢ first → get_elem? s.views k ≡ maybe.some v → IsPast number v
    pub words : s.words ≡ code_of (state_from offer demand) ∷ 0 ∷ []
    pub homes : s.homes ≡ maybe.none ∷ maybe.none ∷ maybe.none ∷ []
    pub once : OneFirst s.views

  -- The last leaver has set the state back to Start, and attaches nobody yet. It has all slots.
  pub record Reopening (s : TableState T C P) : Type 0 where
    pub seat : ℕ
    pub number : ℕ
    pub at : get_elem? s.views seat ≡ maybe.some (view.Reopening number)
    pub others : (k : ℕ) (v : View T C P) → k ≢ seat → get_elem? s.views k ≡ maybe.some v → IsPast (suc number) v
    pub words : s.words ≡ code_of state.Start ∷ 0 ∷ []
    pub homes : s.homes ≡ maybe.none ∷ maybe.none ∷ maybe.none ∷ []
    pub once : OneFirst s.views

  -- One seat has both halves of the greatest use. It stands so for the law over both alone: such a home is used no more.
  pub record Joined (s : TableState T C P) : Type 0 where
    pub seat : ℕ
    pub number : ℕ
    pub p : ProducerPhase T C P
    pub c : ConsumerPhase T C P
    pub at : get_elem? s.views seat ≡ maybe.some (view.Joined number p c)
    pub others : (k : ℕ) (v : View T C P) → k ≢ seat → get_elem? s.views k ≡ maybe.some v → IsPast number v
    pub words : s.words ≡ words_of p c
    pub homes : s.homes ≡ homes_of p c
    pub fit : Fit p c
    pub once : OneFirst s.views

  abbrev pub StandsFor : TableState T C P → Type 0
  StandsFor s = Unbegun s ⊎ (Begun s ⊎ (Over s ⊎ (Reopening s ⊎ Joined s)))
