-- What a view says of its half: what it has set, what it got, which slots it has, and whether it has left.
use Rattle.std.specs.Prelude.{◌≡◌, ℕ, Bool, true, false}
use Rattle.core_state.specs.declared.schedule.Half.{Half}
use Rattle.core_state.specs.declared.schedule.Half.TheVariants as half
use Rattle.fan_base.specs.declared.outcome.Try.{Try}
use Rattle.core_state.specs.declared.schedule.Offer.{Offer}
use Rattle.core_state.specs.declared.schedule.Offer.TheVariants as offered
use Rattle.core_state.specs.declared.schedule.Demand.{Demand}
use Rattle.core_state.specs.declared.schedule.Demand.TheVariants as demanded
use Rattle.core_word.specs.declared.view.Departure.{Departure}
use Rattle.core_word.specs.declared.view.Departure.TheVariants as departed
use Rattle.core_word.specs.declared.view.Sight.{Sight}
use Rattle.core_word.specs.declared.view.Sight.TheVariants as seen
use Rattle.core_word.specs.declared.view.Learned.{Learned}
use Rattle.core_word.specs.declared.view.ProducerSlot.TheVariants as slot
use Rattle.core_word.specs.declared.view.ProducerPhase.{ProducerPhase}
use Rattle.core_word.specs.declared.view.ProducerPhase.TheVariants as producer
use Rattle.core_word.specs.declared.view.ConsumerPhase.{ConsumerPhase}
use Rattle.core_word.specs.declared.view.ConsumerPhase.TheVariants as consumer
use Rattle.core_word.specs.declared.view.View.{View}
use Rattle.core_word.specs.declared.view.View.TheVariants as view

-- how many of one half are attached
abbrev pub attached : Departure → ℕ
attached departed.No = 1
attached departed.First = 0
attached departed.Last = 0

abbrev pub is_attached : Departure → Bool
is_attached departed.No = true
is_attached departed.First = false
is_attached departed.Last = false

-- how many halves a leave found attached: both at the first one, and one at the last
abbrev pub count_at_leave : Departure → ℕ
count_at_leave departed.No = 0
count_at_leave departed.First = 2
count_at_leave departed.Last = 1

-- a producer that has seen that a callback is set
abbrev pub IsAwaited : Sight → Type 0
IsAwaited seen.Unseen = ⊥
IsAwaited seen.NoCallback = ⊥
IsAwaited seen.Callback = Unit {0}
IsAwaited seen.CallbackLeft = Unit {0}

-- What a producer knew of its consumer, it knows still: a callback stays set, and a consumer that has left stays away.
abbrev pub KnowsStill : Sight → Sight → Type 0
KnowsStill seen.Unseen after = Unit {0}
KnowsStill seen.NoCallback after = Unit {0}
KnowsStill seen.Callback after = IsAwaited after
KnowsStill seen.CallbackLeft after = after ≡ seen.CallbackLeft

-- a producer that has seen that a callback is set, and what it knew before
abbrev pub with_callback : Sight → Sight
with_callback seen.Unseen = seen.Callback
with_callback seen.NoCallback = seen.Callback
with_callback seen.Callback = seen.Callback
with_callback seen.CallbackLeft = seen.CallbackLeft

-- a producer that hasn't looked
abbrev pub unlooked : Learned
unlooked = record { sight = seen.Unseen; looks = 0 }

-- what a half got is what the other half set
abbrev pub GotDemand : {C : Type 0} → Demand C → Demand C → Type 0
GotDemand demanded.Nothing demand = Unit {0}
GotDemand (demanded.Callback c) demand = demand ≡ demanded.Callback c

abbrev pub GotOffer : {R K : Type 0} → Offer R K → Offer R K → Type 0
GotOffer offered.Nothing offer = Unit {0}
GotOffer (offered.Result r) offer = offer ≡ offered.Result r
GotOffer (offered.Proxy k) offer = offer ≡ offered.Proxy k

module _ {T C P : Type 0} where
  -- what the producer has set
  abbrev pub offer_of : ProducerPhase T C P → Offer (Try T) P
  offer_of producer.Ready = offered.Nothing
  offer_of (producer.Holding o) = offered.Nothing
  offer_of (producer.Aware o a) = offered.Nothing
  offer_of (producer.Acted offer got left) = offer

  -- the callback that the producer found
  abbrev pub demand_got : ProducerPhase T C P → Demand C
  demand_got producer.Ready = demanded.Nothing
  demand_got (producer.Holding o) = demanded.Nothing
  demand_got (producer.Aware o a) = demanded.Nothing
  demand_got (producer.Acted offer got left) = got

  abbrev pub producer_left : ProducerPhase T C P → Departure
  producer_left producer.Ready = departed.No
  producer_left (producer.Holding o) = departed.No
  producer_left (producer.Aware o a) = departed.No
  producer_left (producer.Acted offer got left) = left

  -- what the consumer has set
  abbrev pub demand_of : ConsumerPhase T C P → Demand C
  demand_of consumer.Ready = demanded.Nothing
  demand_of consumer.Holding = demanded.Nothing
  demand_of (consumer.Aware s) = demanded.Nothing
  demand_of (consumer.Acted demand got left) = demand

  -- what the consumer found that the producer had set
  abbrev pub offer_got : ConsumerPhase T C P → Offer (Try T) P
  offer_got consumer.Ready = offered.Nothing
  offer_got consumer.Holding = offered.Nothing
  offer_got (consumer.Aware s) = offered.Nothing
  offer_got (consumer.Acted demand got left) = got

  abbrev pub consumer_left : ConsumerPhase T C P → Departure
  consumer_left consumer.Ready = departed.No
  consumer_left consumer.Holding = departed.No
  consumer_left (consumer.Aware s) = departed.No
  consumer_left (consumer.Acted demand got left) = left

  -- A half that found something has its own slot and the one that it found, until it leaves.
  abbrev pub producer_has_result : ProducerPhase T C P → Bool
  producer_has_result producer.Ready = false
  producer_has_result (producer.Holding slot.Result) = true
  producer_has_result (producer.Holding slot.Proxy) = false
  producer_has_result (producer.Aware slot.Result a) = true
  producer_has_result (producer.Aware slot.Proxy a) = false
  producer_has_result (producer.Acted offered.Nothing got left) = false
  producer_has_result (producer.Acted (offered.Result r) demanded.Nothing left) = false
  producer_has_result (producer.Acted (offered.Result r) (demanded.Callback c) left) = is_attached left
  producer_has_result (producer.Acted (offered.Proxy k) got left) = false

  abbrev pub producer_has_callback : ProducerPhase T C P → Bool
  producer_has_callback producer.Ready = false
  producer_has_callback (producer.Holding o) = false
  producer_has_callback (producer.Aware o a) = false
  producer_has_callback (producer.Acted offer demanded.Nothing left) = false
  producer_has_callback (producer.Acted offer (demanded.Callback c) left) = is_attached left

  abbrev pub producer_has_proxy : ProducerPhase T C P → Bool
  producer_has_proxy producer.Ready = false
  producer_has_proxy (producer.Holding slot.Result) = false
  producer_has_proxy (producer.Holding slot.Proxy) = true
  producer_has_proxy (producer.Aware slot.Result a) = false
  producer_has_proxy (producer.Aware slot.Proxy a) = true
  producer_has_proxy (producer.Acted offered.Nothing got left) = false
  producer_has_proxy (producer.Acted (offered.Result r) got left) = false
  producer_has_proxy (producer.Acted (offered.Proxy k) demanded.Nothing left) = false
  producer_has_proxy (producer.Acted (offered.Proxy k) (demanded.Callback c) left) = is_attached left

  abbrev pub consumer_has_result : ConsumerPhase T C P → Bool
  consumer_has_result consumer.Ready = false
  consumer_has_result consumer.Holding = false
  consumer_has_result (consumer.Aware s) = false
  consumer_has_result (consumer.Acted demand offered.Nothing left) = false
  consumer_has_result (consumer.Acted demand (offered.Result r) left) = is_attached left
  consumer_has_result (consumer.Acted demand (offered.Proxy k) left) = false

  abbrev pub consumer_has_callback : ConsumerPhase T C P → Bool
  consumer_has_callback consumer.Ready = false
  consumer_has_callback consumer.Holding = true
  consumer_has_callback (consumer.Aware s) = true
  consumer_has_callback (consumer.Acted demand offered.Nothing left) = false
  consumer_has_callback (consumer.Acted demand (offered.Result r) left) = is_attached left
  consumer_has_callback (consumer.Acted demand (offered.Proxy k) left) = is_attached left

  abbrev pub consumer_has_proxy : ConsumerPhase T C P → Bool
  consumer_has_proxy consumer.Ready = false
  consumer_has_proxy consumer.Holding = false
  consumer_has_proxy (consumer.Aware s) = false
  consumer_has_proxy (consumer.Acted demand offered.Nothing left) = false
  consumer_has_proxy (consumer.Acted demand (offered.Result r) left) = false
  consumer_has_proxy (consumer.Acted demand (offered.Proxy k) left) = is_attached left

  -- the use of the home to which a view belongs
  abbrev pub use_of : View T C P → ℕ
  use_of (view.Key number) = number
  use_of (view.Producer number phase learned) = number
  use_of (view.Consumer number phase) = number
  use_of (view.Husk number offer demand) = number
  use_of (view.Reopening number) = number
  use_of (view.Joined number p c) = number
  use_of view.Spent = 0
  use_of view.Clash = 0

  -- what a producer has learned of its consumer, and by how many looks
  abbrev pub learned_of : View T C P → Learned
  learned_of (view.Key number) = unlooked
  learned_of (view.Producer number p learned) = learned
  learned_of (view.Consumer number c) = unlooked
  learned_of (view.Husk number offer demand) = unlooked
  learned_of (view.Reopening number) = unlooked
  learned_of (view.Joined number p c) = unlooked
  learned_of view.Spent = unlooked
  learned_of view.Clash = unlooked

  -- How many halves the leave of a half found attached. A view comes to First only by a count that was above 1, and to Last only by a count of 1.
  abbrev pub count_found : View T C P → ℕ
  count_found (view.Key number) = 0
  count_found (view.Producer number p learned) = count_at_leave (producer_left p)
  count_found (view.Consumer number c) = count_at_leave (consumer_left c)
  count_found (view.Husk number offer demand) = 1
  count_found (view.Reopening number) = 0
  count_found (view.Joined number p c) = 0
  count_found view.Spent = 0
  count_found view.Clash = 0

  -- the view of this half, which was the first to leave
  abbrev pub IsFirstLeave : Half → View T C P → Type 0
  IsFirstLeave half.Producer (view.Key number) = ⊥
  IsFirstLeave half.Producer (view.Producer number p learned) = producer_left p ≡ departed.First
  IsFirstLeave half.Producer (view.Consumer number c) = ⊥
  IsFirstLeave half.Producer (view.Husk number offer demand) = ⊥
  IsFirstLeave half.Producer (view.Reopening number) = ⊥
  IsFirstLeave half.Producer (view.Joined number p c) = ⊥
  IsFirstLeave half.Producer view.Spent = ⊥
  IsFirstLeave half.Producer view.Clash = ⊥
  IsFirstLeave half.Consumer (view.Key number) = ⊥
  IsFirstLeave half.Consumer (view.Producer number p learned) = ⊥
  IsFirstLeave half.Consumer (view.Consumer number c) = consumer_left c ≡ departed.First
  IsFirstLeave half.Consumer (view.Husk number offer demand) = ⊥
  IsFirstLeave half.Consumer (view.Reopening number) = ⊥
  IsFirstLeave half.Consumer (view.Joined number p c) = ⊥
  IsFirstLeave half.Consumer view.Spent = ⊥
  IsFirstLeave half.Consumer view.Clash = ⊥

  -- what the producer has set, and what the consumer has set, as far as a half knows
  abbrev pub offer_in_view : View T C P → Offer (Try T) P
  offer_in_view (view.Key number) = offered.Nothing
  offer_in_view (view.Producer number p learned) = offer_of p
  offer_in_view (view.Consumer number c) = offer_got c
  offer_in_view (view.Husk number offer demand) = offer
  offer_in_view (view.Reopening number) = offered.Nothing
  offer_in_view (view.Joined number p c) = offer_of p
  offer_in_view view.Spent = offered.Nothing
  offer_in_view view.Clash = offered.Nothing

  abbrev pub demand_in_view : View T C P → Demand C
  demand_in_view (view.Key number) = demanded.Nothing
  demand_in_view (view.Producer number p learned) = demand_got p
  demand_in_view (view.Consumer number c) = demand_of c
  demand_in_view (view.Husk number offer demand) = demand
  demand_in_view (view.Reopening number) = demanded.Nothing
  demand_in_view (view.Joined number p c) = demand_of c
  demand_in_view view.Spent = demanded.Nothing
  demand_in_view view.Clash = demanded.Nothing

  -- what both halves have set, by what one of them knows
  abbrev pub Knows : View T C P → Offer (Try T) P → Demand C → Type 0
  Knows (view.Key number) offer demand = ⊥
  Knows (view.Producer number p learned) offer demand = (offer ≡ offer_of p) × GotDemand (demand_got p) demand
  Knows (view.Consumer number c) offer demand = (demand ≡ demand_of c) × GotOffer (offer_got c) offer
  Knows (view.Husk number o k) offer demand = ⊥
  Knows (view.Reopening number) offer demand = ⊥
  Knows (view.Joined number p c) offer demand = ⊥
  Knows view.Spent offer demand = ⊥
  Knows view.Clash offer demand = ⊥
