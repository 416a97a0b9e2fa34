-- What stands in a lawful schedule, by what its halves have set, and what both leaves come to.
use Rattle.std.proofs.Common.{◌≡◌, ℕ, zero, suc, ◌+◌, ◌<◌, ◌≤◌, ◌⊎◌, inl, inr, true, false, List, [], ◌∷◌, ◌++◌, take, refl, sym, ap, ◌∙◌, Some, arith}
use Rattle.std.specs.Prelude.{Bool, slice_get}
use mathlib.Core.Logic.{dite}
use native.Mathlib.Decide.{ℕ_discrete}
use Rattle.core_state.specs.declared.table.State.TheVariants.{Start, OnlyResult, Proxy, Done, Empty}
use Rattle.core_state.specs.declared.schedule.ProducerAct.{ProducerAct}
use Rattle.core_state.specs.declared.schedule.ProducerAct.TheVariants as by_producer
use Rattle.core_state.specs.declared.schedule.ConsumerAct.{ConsumerAct}
use Rattle.core_state.specs.declared.schedule.ConsumerAct.TheVariants as by_consumer
use Rattle.core_state.specs.declared.schedule.CoreAct.{CoreAct}
use Rattle.core_state.specs.declared.schedule.CoreAct.TheVariants as by
use Rattle.core_state.specs.declared.schedule.Half.{Half}
use Rattle.core_state.specs.declared.schedule.Half.TheVariants as the
use Rattle.core_state.specs.declared.schedule.Offer.{Offer}
use Rattle.core_state.specs.declared.schedule.Offer.TheVariants as offered
use Rattle.core_state.specs.declared.schedule.Demand.{Demand}
use Rattle.core_state.specs.declared.schedule.Demand.TheVariants as demanded
use Rattle.core_state.specs.declared.schedule.Request.{Request}
use Rattle.core_state.specs.Table.{waiting_state}
use Rattle.core_state.specs.Schedule.{IsMerge, merged, producer_first, consumer_first, IsLawful, state_from, offer_in, demand_in, IsLater, Frees, leave_of, leaves_in, gives_up}
use Rattle.core_state.specs.Laws.{LastFindsOne, result_of, proxy_of, callback_of}
use Rattle.core_state.proofs.Schedules.{over, leaves, Goes, may_result, may_proxy, may_end, goes_from, ConsumerEnds, all_over, still_leaves, Begins, nothing_comes, callback_comes, give_up_comes, begins_from, take_with, lawful_before}
use Rattle.core_state.proofs.Orders.{p_kind, get_take, get_take_within, no_producer, only_leave, no_consumer, only_leaves, at_one_place, at_one_turn}

-- a state in which a callback waits alone is no other
pub waits_alone : (a : Bool) → (waiting_state a ≡ OnlyResult → ⊥) × (waiting_state a ≡ Proxy → ⊥) × (waiting_state a ≡ Done → ⊥) × (waiting_state a ≡ Empty → ⊥) × (waiting_state a ≡ Start → ⊥)
waits_alone true = ((λ e. cc), (λ e. cc), (λ e. cc), (λ e. cc), (λ e. cc))
waits_alone false = ((λ e. cc), (λ e. cc), (λ e. cc), (λ e. cc), (λ e. cc))

abbrev p_leaves : {R K : Type 0} → List (ProducerAct R K) → ℕ
p_leaves [] = 0
p_leaves (by_producer.Result r ∷ ps) = p_leaves ps
p_leaves (by_producer.Proxy k ∷ ps) = p_leaves ps
p_leaves (by_producer.Leave ∷ ps) = suc (p_leaves ps)

abbrev c_leaves : {C : Type 0} → List (ConsumerAct C) → ℕ
c_leaves [] = 0
c_leaves (by_consumer.Callback c ∷ cs) = c_leaves cs
c_leaves (by_consumer.GiveUp ∷ cs) = c_leaves cs
c_leaves (by_consumer.Leave ∷ cs) = suc (c_leaves cs)

p_leaves_few : {R K : Type 0} {offer : Offer R K} {ps : List (ProducerAct R K)} → Goes offer ps → p_leaves ps ≤ 1
p_leaves_few (may_result over) = omega arith
p_leaves_few (may_result leaves) = omega arith
p_leaves_few (may_proxy over) = omega arith
p_leaves_few (may_proxy leaves) = omega arith
p_leaves_few (may_end over) = omega arith
p_leaves_few (may_end leaves) = omega arith

c_leaves_few : {C : Type 0} {cs : List (ConsumerAct C)} → Begins cs → c_leaves cs ≤ 1
c_leaves_few nothing_comes = omega arith
c_leaves_few (callback_comes all_over) = omega arith
c_leaves_few (callback_comes still_leaves) = omega arith
c_leaves_few (give_up_comes all_over) = omega arith
c_leaves_few (give_up_comes still_leaves) = omega arith

abbrev pub offer_by : {R K : Type 0} → ProducerAct R K → Offer R K
offer_by (by_producer.Result r) = offered.Result r
offer_by (by_producer.Proxy k) = offered.Proxy k
offer_by by_producer.Leave = offered.Nothing

module _ {R K C : Type 0} where
  offer_at : {ps : List (ProducerAct R K)} {cs : List (ConsumerAct C)} {acts : List (CoreAct R K C)} → Goes offered.Nothing ps → IsMerge ps cs acts → (n : ℕ) (p : ProducerAct R K)
      → slice_get acts n ≡ Some (by.Producer p) → p_kind p ≡ 1 → offer_in acts ≡ offer_by p
  offer_at (may_end over) m n p e k = absurd (no_producer m n p e)
  offer_at (may_end leaves) (producer_first m) zero p e k = let same : by_producer.Leave ≡ p = cc in let z : p_kind p ≡ 0 = ap p_kind (sym same) in absurd (omega arith)
  offer_at (may_end leaves) (producer_first m) (suc n) p e k = absurd (no_producer m n p e)
  offer_at (may_result {r} end) (producer_first m) zero p e k = let same : by_producer.Result r ≡ p = cc in ap offer_by same
  offer_at (may_result end) (producer_first m) (suc n) p e k = let z = only_leave end m n p e in absurd (omega (arith, z, k))
  offer_at (may_proxy {k = x} end) (producer_first m) zero p e k = let same : by_producer.Proxy x ≡ p = cc in ap offer_by same
  offer_at (may_proxy end) (producer_first m) (suc n) p e k = let z = only_leave end m n p e in absurd (omega (arith, z, k))
  offer_at goes (consumer_first m) zero p e k = cc
  offer_at goes (consumer_first m) (suc n) p e k = offer_at goes m n p e k

  demand_at : {ps : List (ProducerAct R K)} {cs : List (ConsumerAct C)} {acts : List (CoreAct R K C)} → Begins cs → IsMerge ps cs acts → (n : ℕ) (c : Request C)
      → slice_get acts n ≡ Some (callback_of c) → demand_in acts ≡ demanded.Callback c
  demand_at nothing_comes m n c e = absurd (no_consumer m n _ e)
  demand_at (callback_comes {c = x} end) (consumer_first m) zero c e = let same : x ≡ c = cc in ap (λ y. demanded.Callback y) same
  demand_at (callback_comes end) (consumer_first m) (suc n) c e = let z = only_leaves end m n _ e in absurd (omega (arith, z))
  demand_at (give_up_comes end) (consumer_first m) zero c e = cc
  demand_at (give_up_comes end) (consumer_first m) (suc n) c e = let z = only_leaves end m n _ e in absurd (omega (arith, z))
  demand_at begin (producer_first m) zero c e = cc
  demand_at begin (producer_first m) (suc n) c e = demand_at begin m n c e

  pub result_place : (acts : List (CoreAct R K C)) (r : R) → offer_in acts ≡ offered.Result r → (n : ℕ) × (slice_get acts n ≡ Some (result_of r))
  result_place [] r e = cc
  result_place (by.Producer (by_producer.Result q) ∷ acts) r e = let same : q ≡ r = cc in (0, ap (λ x. Some (result_of x)) same)
  result_place (by.Producer (by_producer.Proxy k) ∷ acts) r e = cc
  result_place (by.Producer by_producer.Leave ∷ acts) r e = let p = result_place acts r e in (suc p.0, p.1)
  result_place (by.Consumer c ∷ acts) r e = let p = result_place acts r e in (suc p.0, p.1)

  pub proxy_place : (acts : List (CoreAct R K C)) (k : K) → offer_in acts ≡ offered.Proxy k → (n : ℕ) × (slice_get acts n ≡ Some (proxy_of k))
  proxy_place [] k e = cc
  proxy_place (by.Producer (by_producer.Result r) ∷ acts) k e = cc
  proxy_place (by.Producer (by_producer.Proxy q) ∷ acts) k e = let same : q ≡ k = cc in (0, ap (λ x. Some (proxy_of x)) same)
  proxy_place (by.Producer by_producer.Leave ∷ acts) k e = let p = proxy_place acts k e in (suc p.0, p.1)
  proxy_place (by.Consumer c ∷ acts) k e = let p = proxy_place acts k e in (suc p.0, p.1)

  pub callback_place : (acts : List (CoreAct R K C)) (c : Request C) → demand_in acts ≡ demanded.Callback c → (n : ℕ) × (slice_get acts n ≡ Some (callback_of c))
  callback_place [] c e = cc
  callback_place (by.Consumer (by_consumer.Callback d) ∷ acts) c e = let same : d ≡ c = cc in (0, ap (λ x. Some (callback_of x)) same)
  callback_place (by.Consumer by_consumer.GiveUp ∷ acts) c e = let p = callback_place acts c e in (suc p.0, p.1)
  callback_place (by.Consumer by_consumer.Leave ∷ acts) c e = let p = callback_place acts c e in (suc p.0, p.1)
  callback_place (by.Producer x ∷ acts) c e = let p = callback_place acts c e in (suc p.0, p.1)

  pub done_parts : (offer : Offer R K) (demand : Demand C) → state_from offer demand ≡ Done → (r : R) × (c : Request C) × (offer ≡ offered.Result r) × (demand ≡ demanded.Callback c)
  done_parts offered.Nothing demanded.Nothing e = cc
  done_parts offered.Nothing (demanded.Callback c) e = absurd ((waits_alone c.inline).2 e)
  done_parts (offered.Result r) demanded.Nothing e = cc
  done_parts (offered.Result r) (demanded.Callback c) e = (r, c, refl, refl)
  done_parts (offered.Proxy k) demanded.Nothing e = cc
  done_parts (offered.Proxy k) (demanded.Callback c) e = cc

  pub empty_parts : (offer : Offer R K) (demand : Demand C) → state_from offer demand ≡ Empty → (k : K) × (c : Request C) × (offer ≡ offered.Proxy k) × (demand ≡ demanded.Callback c)
  empty_parts offered.Nothing demanded.Nothing e = cc
  empty_parts offered.Nothing (demanded.Callback c) e = absurd ((waits_alone c.inline).3 e)
  empty_parts (offered.Result r) demanded.Nothing e = cc
  empty_parts (offered.Result r) (demanded.Callback c) e = cc
  empty_parts (offered.Proxy k) demanded.Nothing e = cc
  empty_parts (offered.Proxy k) (demanded.Callback c) e = (k, c, refl, refl)

  -- the places of the two acts
  pub places : (acts : List (CoreAct R K C)) (half : Half) (p : ProducerAct R K) (c : ConsumerAct C) → IsLater acts half p c
      → (i : ℕ) × (j : ℕ) × (slice_get acts i ≡ Some (by.Producer p)) × (slice_get acts j ≡ Some (by.Consumer c))
  places acts the.Producer p c (i, j, lt, at_c, at_p) = (j, i, at_p, at_c)
  places acts the.Consumer p c (i, j, lt, at_p, at_c) = (i, j, at_p, at_c)

  leaves_of_merge : {ps : List (ProducerAct R K)} {cs : List (ConsumerAct C)} {acts : List (CoreAct R K C)} → IsMerge ps cs acts → leaves_in acts ≡ p_leaves ps + c_leaves cs
  leaves_of_merge merged = refl
  leaves_of_merge (producer_first {p = by_producer.Result r} m) = leaves_of_merge m
  leaves_of_merge (producer_first {p = by_producer.Proxy k} m) = leaves_of_merge m
  leaves_of_merge (producer_first {p = by_producer.Leave} m) = omega (arith, leaves_of_merge m)
  leaves_of_merge (consumer_first {c = by_consumer.Callback d} m) = leaves_of_merge m
  leaves_of_merge (consumer_first {c = by_consumer.GiveUp} m) = leaves_of_merge m
  leaves_of_merge (consumer_first {c = by_consumer.Leave} m) = omega (arith, leaves_of_merge m)

  leaves_few : (acts : List (CoreAct R K C)) → IsLawful acts → leaves_in acts ≤ 2
  leaves_few acts lawful = omega (arith, leaves_of_merge lawful.merge, p_leaves_few (goes_from lawful.of_producer lawful.produced), c_leaves_few (begins_from lawful.of_consumer lawful.consumed))

  leaves_in-append : (acts : List (CoreAct R K C)) (more : List (CoreAct R K C)) → leaves_in (acts ++ more) ≡ leaves_in acts + leaves_in more
  leaves_in-append [] more = omega arith
  leaves_in-append (by.Producer (by_producer.Result r) ∷ acts) more = leaves_in-append acts more
  leaves_in-append (by.Producer (by_producer.Proxy k) ∷ acts) more = leaves_in-append acts more
  leaves_in-append (by.Producer by_producer.Leave ∷ acts) more = omega (arith, leaves_in-append acts more)
  leaves_in-append (by.Consumer (by_consumer.Callback c) ∷ acts) more = leaves_in-append acts more
  leaves_in-append (by.Consumer by_consumer.GiveUp ∷ acts) more = leaves_in-append acts more
  leaves_in-append (by.Consumer by_consumer.Leave ∷ acts) more = omega (arith, leaves_in-append acts more)

  leave_place : (acts : List (CoreAct R K C)) → 0 < leaves_in acts → (n : ℕ) × (half : Half) × (slice_get acts n ≡ Some (leave_of half))
  leave_place [] some = absurd (omega arith)
  leave_place (by.Producer (by_producer.Result r) ∷ acts) some = let p = leave_place acts some in (suc p.0, p.1, p.2)
  leave_place (by.Producer (by_producer.Proxy k) ∷ acts) some = let p = leave_place acts some in (suc p.0, p.1, p.2)
  leave_place (by.Producer by_producer.Leave ∷ acts) some = (0, the.Producer, refl)
  leave_place (by.Consumer (by_consumer.Callback c) ∷ acts) some = let p = leave_place acts some in (suc p.0, p.1, p.2)
  leave_place (by.Consumer by_consumer.GiveUp ∷ acts) some = let p = leave_place acts some in (suc p.0, p.1, p.2)
  leave_place (by.Consumer by_consumer.Leave ∷ acts) some = (0, the.Consumer, refl)

  some_leave : (acts : List (CoreAct R K C)) (n : ℕ) (half : Half) → slice_get acts n ≡ Some (leave_of half) → 0 < leaves_in acts
  some_leave [] n half e = cc
  some_leave (by.Producer (by_producer.Result r) ∷ acts) zero the.Producer e = cc
  some_leave (by.Producer (by_producer.Result r) ∷ acts) zero the.Consumer e = cc
  some_leave (by.Producer (by_producer.Result r) ∷ acts) (suc n) half e = some_leave acts n half e
  some_leave (by.Producer (by_producer.Proxy k) ∷ acts) zero the.Producer e = cc
  some_leave (by.Producer (by_producer.Proxy k) ∷ acts) zero the.Consumer e = cc
  some_leave (by.Producer (by_producer.Proxy k) ∷ acts) (suc n) half e = some_leave acts n half e
  some_leave (by.Producer by_producer.Leave ∷ acts) n half e = omega arith
  some_leave (by.Consumer (by_consumer.Callback c) ∷ acts) zero the.Producer e = cc
  some_leave (by.Consumer (by_consumer.Callback c) ∷ acts) zero the.Consumer e = cc
  some_leave (by.Consumer (by_consumer.Callback c) ∷ acts) (suc n) half e = some_leave acts n half e
  some_leave (by.Consumer by_consumer.GiveUp ∷ acts) zero the.Producer e = cc
  some_leave (by.Consumer by_consumer.GiveUp ∷ acts) zero the.Consumer e = cc
  some_leave (by.Consumer by_consumer.GiveUp ∷ acts) (suc n) half e = some_leave acts n half e
  some_leave (by.Consumer by_consumer.Leave ∷ acts) n half e = omega arith

  one_leave_each : (acts : List (CoreAct R K C)) → IsLawful acts → (i j : ℕ) (half : Half) → slice_get acts i ≡ Some (leave_of half) → slice_get acts j ≡ Some (leave_of half) → i ≡ j
  one_leave_each acts lawful i j the.Producer e f = at_one_place acts lawful i j _ _ e f refl
  one_leave_each acts lawful i j the.Consumer e f = at_one_turn acts lawful i j _ _ e f refl

  frees_at : (acts : List (CoreAct R K C)) → IsLawful acts → (n : ℕ) (half other : Half) (i : ℕ) → slice_get acts n ≡ Some (leave_of half) → i < n → slice_get acts i ≡ Some (leave_of other)
      → Frees (take (suc n) acts) half
  frees_at acts lawful n the.Producer the.Producer i at lt e = let same = one_leave_each acts lawful i n the.Producer e at in absurd (omega arith)
  frees_at acts lawful n the.Consumer the.Consumer i at lt e = let same = one_leave_each acts lawful i n the.Consumer e at in absurd (omega arith)
  frees_at acts lawful n the.Producer the.Consumer i at lt e = (i, n, lt, get_take acts (suc n) i (omega arith) ∙ e, get_take acts (suc n) n (omega arith) ∙ at)
  frees_at acts lawful n the.Consumer the.Producer i at lt e = (i, n, lt, get_take acts (suc n) i (omega arith) ∙ e, get_take acts (suc n) n (omega arith) ∙ at)

  -- an earlier leave stands before a leave that frees
  earlier : (acts : List (CoreAct R K C)) → IsLawful acts → (n : ℕ) (half : Half) → slice_get acts n ≡ Some (leave_of half) → Frees (take (suc n) acts) half → 0 < leaves_in (take n acts)
  earlier acts lawful n the.Producer at (i, j, lt, e, f) =
      let there = get_take_within acts (suc n) j _ f in
      let here : j ≡ n = one_leave_each acts lawful j n the.Producer there.1 at in
      let first = get_take_within acts (suc n) i _ e in
      some_leave (take n acts) i the.Consumer (get_take acts n i (omega arith) ∙ first.1)
  earlier acts lawful n the.Consumer at (i, j, lt, e, f) =
      let there = get_take_within acts (suc n) j _ f in
      let here : j ≡ n = one_leave_each acts lawful j n the.Consumer there.1 at in
      let first = get_take_within acts (suc n) i _ e in
      some_leave (take n acts) i the.Producer (get_take acts n i (omega arith) ∙ first.1)

  leaves_in_more : (acts : List (CoreAct R K C)) (half : Half) → leaves_in (acts ++ leave_of half ∷ []) ≡ leaves_in acts + 1
  leaves_in_more acts the.Producer = leaves_in-append acts (leave_of the.Producer ∷ [])
  leaves_in_more acts the.Consumer = leaves_in-append acts (leave_of the.Consumer ∷ [])

  pub last_finds_one : (acts : List (CoreAct R K C)) → IsLawful acts → LastFindsOne acts
  last_finds_one acts lawful n half at =
      let few = leaves_few (take (suc n) acts) (lawful_before acts (suc n) lawful) in
      let more : leaves_in (take (suc n) acts) ≡ leaves_in (take n acts) + 1 =
      ap leaves_in (take_with acts n _ at) ∙ leaves_in_more (take n acts) half in (
        (
          (λ one. let p = leave_place (take n acts) (omega (arith, one)) in let q = get_take_within acts n p.0 _ p.2 in frees_at acts lawful n half p.1 p.0 at q.0 q.1),
          (λ frees. let first = earlier acts lawful n half at frees in omega (arith, few, more, first)),
        ),
        dite (ℕ_discrete (leaves_in (take n acts)) 0) (λ none_left. inr (omega (arith, none_left))) (λ some_left. inl (omega (arith, few, more, some_left))),
      )

  pub nothing_after : {ps : List (ProducerAct R K)} {cs : List (ConsumerAct C)} {acts : List (CoreAct R K C)} → ConsumerEnds cs → IsMerge ps cs acts → (demand_in acts ≡ demanded.Nothing) × (gives_up acts ≡ false)
  nothing_after end merged = (refl, refl)
  nothing_after end (producer_first m) = nothing_after end m
  nothing_after still_leaves (consumer_first m) = nothing_after all_over m

  -- a consumer that has left had set a callback or given up
  pub chosen : {ps : List (ProducerAct R K)} {cs : List (ConsumerAct C)} {acts : List (CoreAct R K C)} → Begins cs → IsMerge ps cs acts → (n : ℕ) → slice_get acts n ≡ Some (leave_of the.Consumer)
      → ((c : Request C) × (demand_in acts ≡ demanded.Callback c) × (gives_up acts ≡ false)) ⊎ ((demand_in acts ≡ demanded.Nothing) × (gives_up acts ≡ true))
  chosen nothing_comes m n e = absurd (no_consumer m n _ e)
  chosen (callback_comes {c = d} end) (consumer_first m) n e = inl (d, refl, (nothing_after end m).1)
  chosen (give_up_comes end) (consumer_first m) n e = inr ((nothing_after end m).0, refl)
  chosen begin (producer_first m) zero e = cc
  chosen begin (producer_first m) (suc n) e = chosen begin m n e

  module _ (acts : List (CoreAct R K C)) (lawful : IsLawful acts) where
    pub offer_here : (n : ℕ) (p : ProducerAct R K) → slice_get acts n ≡ Some (by.Producer p) → p_kind p ≡ 1 → offer_in acts ≡ offer_by p
    offer_here = offer_at (goes_from lawful.of_producer lawful.produced) lawful.merge

    pub demand_here : (n : ℕ) (c : Request C) → slice_get acts n ≡ Some (callback_of c) → demand_in acts ≡ demanded.Callback c
    demand_here = demand_at (begins_from lawful.of_consumer lawful.consumed) lawful.merge
