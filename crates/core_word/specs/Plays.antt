-- What each step on a home's table tells its caller, and where a seat then stands: its view, and the slots that it has with what they hold.
use Rattle.std.specs.Prelude.{◌≡◌, ◌≢◌, ◌⊎◌, ℕ, suc, Bool, List, [], ◌∷◌, Option, Some, None}
use Rattle.fan_base.specs.declared.outcome.Try.{Try}
use Rattle.core_state.specs.declared.table.State.{State}
use Rattle.core_state.specs.declared.table.State.TheVariants as state
use Rattle.core_state.specs.declared.schedule.Offer.{Offer}
use Rattle.core_state.specs.declared.schedule.Offer.TheVariants as offered
use Rattle.core_state.specs.declared.schedule.Demand.{Demand}
use Rattle.core_state.specs.declared.schedule.Demand.TheVariants as demanded
use Rattle.core_state.specs.declared.schedule.Request.{Request}
use Rattle.core_state.specs.Table.{code_of, waiting_state}
use Rattle.core_state.specs.Schedule.{leftover_from}
use Rattle.atomic_table.specs.Table.{Me}
use Rattle.atomic_table.specs.Seated.{TableId}
use Rattle.atomic_table.specs.declared.shared.Seat.{Seat}
use Rattle.core_word.specs.declared.view.Item.TheVariants as item
use Rattle.core_word.specs.declared.view.Departure.{Departure}
use Rattle.core_word.specs.declared.view.Departure.TheVariants as departed
use Rattle.core_word.specs.declared.view.Learned.{Learned}
use Rattle.core_word.specs.declared.view.Sight.TheVariants as seen
use Rattle.core_word.specs.declared.view.ProducerSlot.{ProducerSlot}
use Rattle.core_word.specs.declared.view.ProducerSlot.TheVariants as slot
use Rattle.core_word.specs.declared.view.ProducerPhase.{ProducerPhase}
use Rattle.core_word.specs.declared.view.ProducerPhase.TheVariants as producer
use Rattle.core_word.specs.declared.view.ConsumerPhase.TheVariants as consumer
use Rattle.core_word.specs.declared.view.View.{View}
use Rattle.core_word.specs.declared.view.View.TheVariants as view
use Rattle.core_word.specs.Views.{use_of, learned_of, unlooked, with_callback, IsAwaited, offer_of, demand_got, demand_of, offer_got, Knows}
use Rattle.core_word.specs.Rule.{Held, IsSet, Fit}

-- where a seat stands
abbrev pub Standing : Type 0 → Type 0 → Type 0 → Type 0
Standing T C P = Me (Held T C P) (View T C P)

-- the slot of what a producer sets
abbrev pub slot_of : ProducerSlot → ℕ
slot_of slot.Result = 0
slot_of slot.Proxy = 2

-- the state that a half found: what it got stands for it alone
abbrev pub found_by_producer : {C : Type 0} → Demand C → State
found_by_producer demanded.Nothing = state.Start
found_by_producer (demanded.Callback c) = waiting_state c.inline

abbrev pub found_by_consumer : {R K : Type 0} → Offer R K → State
found_by_consumer offered.Nothing = state.Start
found_by_consumer (offered.Result r) = state.OnlyResult
found_by_consumer (offered.Proxy k) = state.Proxy

-- a look that found no callback, and one that found whether the consumer has left
abbrev pub none_seen : Learned → Learned
none_seen learned = record { sight = seen.NoCallback; looks = suc learned.looks }

abbrev pub leave_seen : Learned → Learned
leave_seen learned = record { sight = seen.CallbackLeft; looks = suc learned.looks }

abbrev pub stay_seen : Learned → Learned
stay_seen learned = record { sight = seen.Callback; looks = suc learned.looks }

-- half a look: it found that a callback is set
abbrev pub callback_seen : Learned → Learned
callback_seen learned = record { sight = with_callback learned.sight; looks = learned.looks }

-- a word in which a producer that hasn't acted may find the state: Start, or that of a callback that waits
abbrev pub FindsStartOrWaiting : ℕ → Type 0
FindsStartOrWaiting found = (found ≡ code_of state.Start) ⊎ ((a : Bool) × (found ≡ code_of (waiting_state a)))

module _ {T C P : Type 0} where
  abbrev pub key_at : ℕ → Standing T C P
  key_at number = (view.Key number, [])

  abbrev pub producer_ready : ℕ → Learned → Standing T C P
  producer_ready number learned = (view.Producer number producer.Ready learned, [])

  abbrev pub producer_holding : ℕ → Learned → ProducerSlot → Held T C P → Standing T C P
  producer_holding number learned o held = (view.Producer number (producer.Holding o) learned, (slot_of o, held) ∷ [])

  abbrev pub producer_aware : ℕ → Learned → ProducerSlot → Bool → Held T C P → Standing T C P
  producer_aware number learned o a held = (view.Producer number (producer.Aware o a) learned, (slot_of o, held) ∷ [])

  -- A producer that found nothing has no slot. One that found a callback has two, and has emptied them.
  abbrev pub producer_slots : Offer (Try T) P → Demand C → List (ℕ × Held T C P)
  producer_slots offer demanded.Nothing = []
  producer_slots offered.Nothing (demanded.Callback c) = []
  producer_slots (offered.Result r) (demanded.Callback c) = (0, None) ∷ (1, None) ∷ []
  producer_slots (offered.Proxy k) (demanded.Callback c) = (2, None) ∷ (1, None) ∷ []

  abbrev pub producer_acted : ℕ → Learned → Offer (Try T) P → Demand C → Standing T C P
  producer_acted number learned offer got = (view.Producer number (producer.Acted offer got departed.No) learned, producer_slots offer got)

  abbrev pub consumer_ready : ℕ → Standing T C P
  consumer_ready number = (view.Consumer number consumer.Ready, [])

  abbrev pub consumer_holding : ℕ → Held T C P → Standing T C P
  consumer_holding number held = (view.Consumer number consumer.Holding, (1, held) ∷ [])

  abbrev pub consumer_aware : ℕ → State → Held T C P → Standing T C P
  consumer_aware number s held = (view.Consumer number (consumer.Aware s), (1, held) ∷ [])

  abbrev pub consumer_slots : Offer (Try T) P → List (ℕ × Held T C P)
  consumer_slots offered.Nothing = []
  consumer_slots (offered.Result r) = (1, None) ∷ (0, None) ∷ []
  consumer_slots (offered.Proxy k) = (1, None) ∷ (2, None) ∷ []

  -- A consumer that gave up has made no step.
  abbrev pub consumer_acted : ℕ → Demand C → Offer (Try T) P → Standing T C P
  consumer_acted number demanded.Nothing got = consumer_ready number
  consumer_acted number (demanded.Callback c) got = (view.Consumer number (consumer.Acted (demanded.Callback c) got departed.No), consumer_slots got)

  -- what a seat is about to set: what its slot holds
  abbrev pub offer_in_hand : List (ℕ × Held T C P) → Offer (Try T) P
  offer_in_hand [] = offered.Nothing
  offer_in_hand ((k, None) ∷ xs) = offered.Nothing
  offer_in_hand ((k, Some (item.Outcome r)) ∷ xs) = offered.Result r
  offer_in_hand ((k, Some (item.Callback c)) ∷ xs) = offered.Nothing
  offer_in_hand ((k, Some (item.Proxy p)) ∷ xs) = offered.Proxy p

  abbrev pub demand_in_hand : List (ℕ × Held T C P) → Demand C
  demand_in_hand [] = demanded.Nothing
  demand_in_hand ((k, None) ∷ xs) = demanded.Nothing
  demand_in_hand ((k, Some (item.Outcome r)) ∷ xs) = demanded.Nothing
  demand_in_hand ((k, Some (item.Callback c)) ∷ xs) = demanded.Callback c
  demand_in_hand ((k, Some (item.Proxy p)) ∷ xs) = demanded.Nothing

  -- a producer takes the slot of what it is about to set, which is empty
  abbrev pub takes_producer_slot : ProducerSlot → Standing T C P → ℕ → Standing T C P → Type 0
  takes_producer_slot o before found after = after ≡ producer_holding (use_of before.0) (learned_of before.0) o None

  abbrev pub takes_callback_slot : Standing T C P → ℕ → Standing T C P → Type 0
  takes_callback_slot before found after = after ≡ consumer_holding (use_of before.0) None

  -- A producer's look at the state. A callback is set, or not yet. One that had seen a callback finds one.
  abbrev pub looks_for_callback : Standing T C P → ℕ → Standing T C P → Type 0
  looks_for_callback before found after =
      (found ≡ code_of state.Start → after ≡ producer_ready (use_of before.0) (none_seen (learned_of before.0)))
      × (found ≢ code_of state.Start → after ≡ producer_ready (use_of before.0) (callback_seen (learned_of before.0)))
      × (IsAwaited (learned_of before.0).sight → found ≢ code_of state.Start)

  -- The look at the count of a producer that has seen a callback. The consumer has left, or not yet. One that had seen it leave finds one half attached.
  abbrev pub looks_for_leave : Standing T C P → ℕ → Standing T C P → Type 0
  looks_for_leave before found after =
      (found ≡ 1 → after ≡ producer_ready (use_of before.0) (leave_seen (learned_of before.0)))
      × (found ≢ 1 → after ≡ producer_ready (use_of before.0) (stay_seen (learned_of before.0)))
      × ((learned_of before.0).sight ≡ seen.CallbackLeft → found ≡ 1)

  -- A producer's look before its exchange from Start. It sees that a callback waits, and whether it was set with the allowance; or it finds Start, and stands as before.
  abbrev pub sees_waiting : ProducerSlot → Standing T C P → ℕ → Standing T C P → Type 0
  sees_waiting o before found after =
      (found ≡ code_of state.Start → after ≡ before)
      × ((a : Bool) → found ≡ code_of (waiting_state a) → after ≡ (view.Producer (use_of before.0) (producer.Aware o a) (learned_of before.0), before.1))
      × FindsStartOrWaiting found

  -- A producer's exchange from Start. It sets what its slot holds, or sees that a callback waits, and whether it was set with the allowance. One that had seen a callback doesn't find Start.
  abbrev pub tries_first : ProducerSlot → Standing T C P → ℕ → Standing T C P → Type 0
  tries_first o before found after =
      (found ≡ code_of state.Start → after ≡ producer_acted (use_of before.0) (learned_of before.0) (offer_in_hand before.1) demanded.Nothing)
      × ((a : Bool) → found ≡ code_of (waiting_state a) → after ≡ (view.Producer (use_of before.0) (producer.Aware o a) (learned_of before.0), before.1))
      × FindsStartOrWaiting found

  abbrev pub sets_first : ProducerSlot → Standing T C P → ℕ → Standing T C P → Type 0
  sets_first o before found after = tries_first o before found after × (IsAwaited (learned_of before.0).sight → found ≢ code_of state.Start)

  -- A producer's exchange from the state of a callback that waits. It sets what its slot holds, and takes the callback.
  abbrev pub sets_second : Standing T C P → ℕ → Standing T C P → Type 0
  sets_second before found after =
      (c : Request C) × (after ≡ (view.Producer (use_of before.0) (producer.Acted (offer_in_hand before.1) (demanded.Callback c) departed.No) (learned_of before.0), (1, Some (item.Callback c)) ∷ before.1))

  -- A consumer's look before its exchange from Start. It sees what the producer has set; or it finds Start, and stands as before.
  abbrev pub sees_offer : Standing T C P → ℕ → Standing T C P → Type 0
  sees_offer before found after =
      (found ≡ code_of state.Start → after ≡ before)
      × (found ≡ code_of state.OnlyResult → after ≡ (view.Consumer (use_of before.0) (consumer.Aware state.OnlyResult), before.1))
      × (found ≢ code_of state.Start → found ≢ code_of state.OnlyResult → after ≡ (view.Consumer (use_of before.0) (consumer.Aware state.Proxy), before.1))

  -- A consumer's exchange from Start. It sets the callback, or sees what the producer has set.
  abbrev pub demands_first : Standing T C P → ℕ → Standing T C P → Type 0
  demands_first before found after =
      (found ≡ code_of state.Start → after ≡ consumer_acted (use_of before.0) (demand_in_hand before.1) offered.Nothing)
      × (found ≡ code_of state.OnlyResult → after ≡ (view.Consumer (use_of before.0) (consumer.Aware state.OnlyResult), before.1))
      × (found ≢ code_of state.Start → found ≢ code_of state.OnlyResult → after ≡ (view.Consumer (use_of before.0) (consumer.Aware state.Proxy), before.1))

  -- A consumer's exchange from OnlyResult. It sets the callback, and takes the result.
  abbrev pub demands_result : Standing T C P → ℕ → Standing T C P → Type 0
  demands_result before found after =
      (r : Try T) × (after ≡ (view.Consumer (use_of before.0) (consumer.Acted (demand_in_hand before.1) (offered.Result r) departed.No), (0, Some (item.Outcome r)) ∷ before.1))

  -- A consumer's exchange from Proxy. It sets the callback, and takes the proxy.
  abbrev pub demands_proxy : Standing T C P → ℕ → Standing T C P → Type 0
  demands_proxy before found after =
      (k : P) × (after ≡ (view.Consumer (use_of before.0) (consumer.Acted (demand_in_hand before.1) (offered.Proxy k) departed.No), (2, Some (item.Proxy k)) ∷ before.1))

  abbrev pub leaving : Departure → View T C P → View T C P
  leaving left (view.Key number) = view.Key number
  leaving left (view.Producer number p learned) = view.Producer number (producer.Acted (offer_of p) (demand_got p) left) learned
  leaving left (view.Consumer number c) = view.Consumer number (consumer.Acted (demand_of c) (offer_got c) left)
  leaving left (view.Husk number offer demand) = view.Husk number offer demand
  leaving left (view.Reopening number) = view.Reopening number
  leaving left (view.Joined number p c) = view.Joined number p c
  leaving left view.Spent = view.Spent
  leaving left view.Clash = view.Clash

  -- A half leaves, and gives its slots home. It is the last where it found one half attached.
  abbrev pub departs : Standing T C P → ℕ → Standing T C P → Type 0
  departs before found after =
      (found ≡ 1 → after ≡ (leaving departed.Last before.0, []))
      × (found ≢ 1 → (found ≡ 2) × (after ≡ (leaving departed.First before.0, [])))

  -- Besides, a producer that had seen its consumer leave finds one.
  abbrev pub leaves : Standing T C P → ℕ → Standing T C P → Type 0
  leaves before found after = departs before found after × ((learned_of before.0).sight ≡ seen.CallbackLeft → found ≡ 1)

  abbrev pub result_left : Offer (Try T) P → Held T C P
  result_left offered.Nothing = None
  result_left (offered.Result r) = Some (item.Outcome r)
  result_left (offered.Proxy k) = None

  abbrev pub proxy_left : Offer (Try T) P → Held T C P
  proxy_left offered.Nothing = None
  proxy_left (offered.Result r) = None
  proxy_left (offered.Proxy k) = Some (item.Proxy k)

  -- The last leaver reads the state that both halves' acts make, and so knows what both have set. It takes all slots with what is left over.
  abbrev pub reads_end : Standing T C P → ℕ → Standing T C P → Type 0
  reads_end before found after =
      (offer : Offer (Try T) P) × (demand : Demand C) × IsSet offer × Knows before.0 offer demand
      × (after ≡ (view.Husk (use_of before.0) offer demand, (2, proxy_left (leftover_from offer demand)) ∷ (1, None) ∷ (0, result_left (leftover_from offer demand)) ∷ []))

  abbrev pub begin_producer : View T C P → View T C P
  begin_producer (view.Key number) = view.Producer number producer.Ready unlooked
  begin_producer (view.Producer number p learned) = view.Producer number p learned
  begin_producer (view.Consumer number c) = view.Consumer number c
  begin_producer (view.Husk number offer demand) = view.Husk number offer demand
  begin_producer (view.Reopening number) = view.Reopening number
  begin_producer (view.Joined number p c) = view.Joined number p c
  begin_producer view.Spent = view.Spent
  begin_producer view.Clash = view.Clash

  abbrev pub begin_consumer : View T C P → View T C P
  begin_consumer (view.Key number) = view.Consumer number consumer.Ready
  begin_consumer (view.Producer number p learned) = view.Producer number p learned
  begin_consumer (view.Consumer number c) = view.Consumer number c
  begin_consumer (view.Husk number offer demand) = view.Husk number offer demand
  begin_consumer (view.Reopening number) = view.Reopening number
  begin_consumer (view.Joined number p c) = view.Joined number p c
  begin_consumer view.Spent = view.Spent
  begin_consumer view.Clash = view.Clash

  -- a half that may leave: a producer that has acted, or a consumer that has acted or gives up
  abbrev pub IsLeaving : Standing T C P → Type 0
  IsLeaving standing =
      ((number : ℕ) × (learned : Learned) × (offer : Offer (Try T) P) × (got : Demand C) × IsSet offer × (standing ≡ producer_acted number learned offer got))
      ⊎ ((number : ℕ) × (demand : Demand C) × (got : Offer (Try T) P) × (standing ≡ consumer_acted number demand got))

  -- a half that was the last to leave
  abbrev pub IsLast : View T C P → Type 0
  IsLast v =
      ((number : ℕ) × (learned : Learned) × (offer : Offer (Try T) P) × (got : Demand C) × (v ≡ view.Producer number (producer.Acted offer got departed.Last) learned))
      ⊎ ((number : ℕ) × (demand : Demand C) × (got : Offer (Try T) P) × (v ≡ view.Consumer number (consumer.Acted demand got departed.Last)))

  -- a last leaver that has emptied all slots
  abbrev pub husk_at : ℕ → Offer (Try T) P → Demand C → Standing T C P
  husk_at number offer demand = (view.Husk number offer demand, (0, None) ∷ (2, None) ∷ (1, None) ∷ [])

  -- a last leaver that has set the state back
  abbrev pub reopening_at : ℕ → Standing T C P
  reopening_at number = (view.Reopening number, (0, None) ∷ (2, None) ∷ (1, None) ∷ [])

  -- The last leaver sets the state back to Start. It keeps all slots.
  abbrev pub sets_back : Standing T C P → ℕ → Standing T C P → Type 0
  sets_back before found after = after ≡ (view.Reopening (use_of before.0), before.1)

  -- It attaches both halves of the next use and gives all slots home, empty. So it is the key of that use.
  abbrev pub reopens : Standing T C P → ℕ → Standing T C P → Type 0
  reopens before found after = after ≡ key_at (suc (use_of before.0))

  -- a producer's seat with a consumer's put into it
  abbrev pub with_consumer : ℕ → ProducerPhase T C P → View T C P → View T C P
  with_consumer number p (view.Key n) = view.Clash
  with_consumer number p (view.Producer n q learned) = view.Clash
  with_consumer number p (view.Consumer n c) = view.Joined number p c
  with_consumer number p (view.Husk n offer demand) = view.Clash
  with_consumer number p (view.Reopening n) = view.Clash
  with_consumer number p (view.Joined n q c) = view.Clash
  with_consumer number p view.Spent = view.Clash
  with_consumer number p view.Clash = view.Clash

  abbrev pub both_halves : View T C P → View T C P → View T C P
  both_halves (view.Key n) v = view.Clash
  both_halves (view.Producer n p learned) v = with_consumer n p v
  both_halves (view.Consumer n c) v = view.Clash
  both_halves (view.Husk n offer demand) v = view.Clash
  both_halves (view.Reopening n) v = view.Clash
  both_halves (view.Joined n p c) v = view.Clash
  both_halves view.Spent v = view.Clash
  both_halves view.Clash v = view.Clash

  -- A look of a seat that has both halves: they fit.
  abbrev pub HalvesFit : View T C P → Type 0
  HalvesFit (view.Key n) = ⊥
  HalvesFit (view.Producer n p learned) = ⊥
  HalvesFit (view.Consumer n c) = ⊥
  HalvesFit (view.Husk n offer demand) = ⊥
  HalvesFit (view.Reopening n) = ⊥
  HalvesFit (view.Joined n p c) = Fit p c
  HalvesFit view.Spent = ⊥
  HalvesFit view.Clash = ⊥

  abbrev pub compares : Standing T C P → ℕ → Standing T C P → Type 0
  compares before found after = HalvesFit before.0

  -- a seat of this home stands so
  pub record Sits (home : TableId) (seat : Seat (Held T C P) (View T C P)) (standing : Standing T C P) : Type 0 where
    pub of_home : seat.table_id ≡ home
    pub stands : seat.me ≡ standing

-- a home has two words and three slots
pub record IsHome (home : TableId) : Type 0 where
  pub words : home.words ≡ 2
  pub slots : home.slots ≡ 3

module _ {T C P : Type 0} where
  -- where the key of a home wasn't taken, its seat has it
  abbrev pub HasKey : TableId → Option (Seat (Held T C P) (View T C P)) → Type 0
  HasKey home None = Unit {0}
  HasKey home (Some seat) = Sits home seat (key_at 0)
