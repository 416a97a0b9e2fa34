-- Which half hands over or forwards, and what becomes of what the halves have set.
use Rattle.std.proofs.Common.{◌≡◌, ℕ, zero, suc, ◌⊎◌, inl, inr, ⊎_elim, true, false, List, [], ◌∷◌, take, refl, sym, ap, ◌∙◌, Some, arith}
use Rattle.std.specs.Prelude.{Bool, slice_get, ◌↔◌}
use Rattle.core_state.specs.declared.table.State.{State}
use Rattle.core_state.specs.declared.table.State.TheVariants.{OnlyResult, Proxy, Done, Empty}
use Rattle.core_state.specs.declared.table.Act.TheVariants.{SetResult, SetProxy}
use Rattle.core_state.specs.declared.schedule.ProducerAct.{ProducerAct}
use Rattle.core_state.specs.declared.schedule.ProducerAct.TheVariants as by_producer
use Rattle.core_state.specs.declared.schedule.ConsumerAct.{ConsumerAct}
use Rattle.core_state.specs.declared.schedule.ConsumerAct.TheVariants as by_consumer
use Rattle.core_state.specs.declared.schedule.CoreAct.{CoreAct}
use Rattle.core_state.specs.declared.schedule.CoreAct.TheVariants as by
use Rattle.core_state.specs.declared.schedule.Half.{Half}
use Rattle.core_state.specs.declared.schedule.Half.TheVariants as the
use Rattle.core_state.specs.declared.schedule.Offer.{Offer}
use Rattle.core_state.specs.declared.schedule.Offer.TheVariants as offered
use Rattle.core_state.specs.declared.schedule.Demand.{Demand}
use Rattle.core_state.specs.declared.schedule.Demand.TheVariants as demanded
use Rattle.core_state.specs.declared.schedule.Request.{Request}
use Rattle.core_state.specs.Table.{state_after, waiting_state, setting_act}
use Rattle.core_state.specs.Schedule.{IsProducerList, result_list, proxy_list, IsMerge, merged, producer_first, consumer_first, IsLawful, state_from, offer_in, demand_in, state_of, HandOver, inline_by, IsLater, Frees, leave_of, gives_up, leftover_of}
use Rattle.core_state.specs.Laws.{result_of, proxy_of, callback_of, Stands, IsHandedOver, IsForwarded, HandsOverOnce, LeavesOffer, ComesOnce, FindsOther, IsAccounted}
use Rattle.core_state.proofs.Schedules.{Begins, nothing_comes, callback_comes, give_up_comes, begins_from, lawful_before, finds}
use Rattle.core_state.proofs.Orders.{p_kind, c_kind, get_take, get_take_within, no_producer, at_one_place, at_one_turn, same_later, one_later}
use Rattle.core_state.proofs.Freeing.{waits_alone, result_place, proxy_place, callback_place, done_parts, empty_parts, places, nothing_after, chosen, offer_here, demand_here}

-- a state in which a callback waits tells whether it was set with the allowance
one_waiting : (a b : Bool) → waiting_state a ≡ waiting_state b → a ≡ b
one_waiting true true e = refl
one_waiting true false e = cc
one_waiting false true e = cc
one_waiting false false e = refl

module _ {R K : Type 0} where
  same_kind : (p q : ProducerAct R K) → (p ≡ by_producer.Leave) ↔ (q ≡ by_producer.Leave) → p_kind p ≡ p_kind q
  same_kind (by_producer.Result r) (by_producer.Result s) both = refl
  same_kind (by_producer.Result r) (by_producer.Proxy k) both = refl
  same_kind (by_producer.Result r) by_producer.Leave both = let e = both.1 refl in cc
  same_kind (by_producer.Proxy k) (by_producer.Result r) both = refl
  same_kind (by_producer.Proxy k) (by_producer.Proxy l) both = refl
  same_kind (by_producer.Proxy k) by_producer.Leave both = let e = both.1 refl in cc
  same_kind by_producer.Leave (by_producer.Result r) both = let e = both.0 refl in cc
  same_kind by_producer.Leave (by_producer.Proxy k) both = let e = both.0 refl in cc
  same_kind by_producer.Leave by_producer.Leave both = refl

  -- a producer that has acted has set something first
  data Sets : List (ProducerAct R K) → Type 0 where
    nothing_set : Sets []
    result_set : {r : R} {ps : List (ProducerAct R K)} → Sets (by_producer.Result r ∷ ps)
    proxy_set : {k : K} {ps : List (ProducerAct R K)} → Sets (by_producer.Proxy k ∷ ps)

  sets_first : {ps : List (ProducerAct R K)} → IsProducerList ps → (n : ℕ) → Sets (take n ps)
  sets_first (result_list r) zero = nothing_set
  sets_first (result_list r) (suc n) = result_set
  sets_first (proxy_list k) zero = nothing_set
  sets_first (proxy_list k) (suc n) = proxy_set

module _ {C : Type 0} where
  same_turn : (c d : ConsumerAct C) → (c ≡ by_consumer.Leave) ↔ (d ≡ by_consumer.Leave) → c_kind c ≡ c_kind d
  same_turn (by_consumer.Callback c) (by_consumer.Callback d) both = refl
  same_turn (by_consumer.Callback c) by_consumer.GiveUp both = refl
  same_turn (by_consumer.Callback c) by_consumer.Leave both = let e = both.1 refl in cc
  same_turn by_consumer.GiveUp (by_consumer.Callback d) both = refl
  same_turn by_consumer.GiveUp by_consumer.GiveUp both = refl
  same_turn by_consumer.GiveUp by_consumer.Leave both = let e = both.1 refl in cc
  same_turn by_consumer.Leave (by_consumer.Callback d) both = let e = both.0 refl in cc
  same_turn by_consumer.Leave by_consumer.GiveUp both = let e = both.0 refl in cc
  same_turn by_consumer.Leave by_consumer.Leave both = refl

module _ {R K C : Type 0} where
  -- an exchange that has a row, beside what the other half has set
  finds_callback : (offer : Offer R K) (c : Request C) (later : State) → (state_after (state_from offer (demanded.Callback c)) SetResult ≡ Some later) ⊎ (state_after (state_from offer (demanded.Callback c)) SetProxy ≡ Some later)
      → state_from offer (demanded.Callback c) ≡ waiting_state c.inline
  finds_callback offered.Nothing c later row = refl
  finds_callback (offered.Result r) c later row = absurd (⊎_elim (λ e. cc) (λ e. cc) row)
  finds_callback (offered.Proxy k) c later row = absurd (⊎_elim (λ e. cc) (λ e. cc) row)

  finds_result : (offer : Offer R K) (demand : Demand C) (r : R) (later : State) (a : Bool) → offer ≡ offered.Result r → state_after (state_from offer demand) (setting_act a) ≡ Some later → state_from offer demand ≡ OnlyResult
  finds_result offered.Nothing demand r later a is row = cc
  finds_result (offered.Result q) demanded.Nothing r later a is row = refl
  finds_result (offered.Result q) (demanded.Callback c) r later true is row = cc
  finds_result (offered.Result q) (demanded.Callback c) r later false is row = cc
  finds_result (offered.Proxy k) demand r later a is row = cc

  finds_proxy : (offer : Offer R K) (demand : Demand C) (k : K) (later : State) (a : Bool) → offer ≡ offered.Proxy k → state_after (state_from offer demand) (setting_act a) ≡ Some later → state_from offer demand ≡ Proxy
  finds_proxy offered.Nothing demand k later a is row = cc
  finds_proxy (offered.Result r) demand k later a is row = cc
  finds_proxy (offered.Proxy q) demanded.Nothing k later a is row = refl
  finds_proxy (offered.Proxy q) (demanded.Callback c) k later true is row = cc
  finds_proxy (offered.Proxy q) (demanded.Callback c) k later false is row = cc

  waiting_parts : (offer : Offer R K) (demand : Demand C) (a : Bool) → state_from offer demand ≡ waiting_state a → (c : C) × (demand ≡ demanded.Callback record { callback = c; inline = a })
  waiting_parts offered.Nothing demanded.Nothing a e = absurd ((waits_alone a).4 (sym e))
  waiting_parts offered.Nothing (demanded.Callback c) a e = (c.callback, ap (λ b. demanded.Callback record { callback = c.callback; inline = b }) (one_waiting c.inline a e))
  waiting_parts (offered.Result r) demanded.Nothing a e = absurd ((waits_alone a).0 (sym e))
  waiting_parts (offered.Result r) (demanded.Callback c) a e = absurd ((waits_alone a).2 (sym e))
  waiting_parts (offered.Proxy k) demanded.Nothing a e = absurd ((waits_alone a).1 (sym e))
  waiting_parts (offered.Proxy k) (demanded.Callback c) a e = absurd ((waits_alone a).3 (sym e))

  only_result_parts : (offer : Offer R K) (demand : Demand C) → state_from offer demand ≡ OnlyResult → (r : R) × (offer ≡ offered.Result r)
  only_result_parts offered.Nothing demanded.Nothing e = cc
  only_result_parts offered.Nothing (demanded.Callback c) e = absurd ((waits_alone c.inline).0 e)
  only_result_parts (offered.Result r) demanded.Nothing e = (r, refl)
  only_result_parts (offered.Result r) (demanded.Callback c) e = cc
  only_result_parts (offered.Proxy k) demanded.Nothing e = cc
  only_result_parts (offered.Proxy k) (demanded.Callback c) e = cc

  proxy_parts : (offer : Offer R K) (demand : Demand C) → state_from offer demand ≡ Proxy → (k : K) × (offer ≡ offered.Proxy k)
  proxy_parts offered.Nothing demanded.Nothing e = cc
  proxy_parts offered.Nothing (demanded.Callback c) e = absurd ((waits_alone c.inline).1 e)
  proxy_parts (offered.Result r) demanded.Nothing e = cc
  proxy_parts (offered.Result r) (demanded.Callback c) e = cc
  proxy_parts (offered.Proxy k) demanded.Nothing e = (k, refl)
  proxy_parts (offered.Proxy k) (demanded.Callback c) e = cc

  set_before : {ps : List (ProducerAct R K)} {cs : List (ConsumerAct C)} {acts : List (CoreAct R K C)} → Sets ps → IsMerge ps cs acts → (n : ℕ) → slice_get acts n ≡ Some (leave_of the.Producer)
      → ((r : R) × (offer_in acts ≡ offered.Result r)) ⊎ ((k : K) × (offer_in acts ≡ offered.Proxy k))
  set_before nothing_set m n e = absurd (no_producer m n _ e)
  set_before (result_set {r}) (producer_first m) n e = inl (r, refl)
  set_before (proxy_set {k}) (producer_first m) n e = inr (k, refl)
  set_before sets (consumer_first m) zero e = cc
  set_before sets (consumer_first m) (suc n) e = set_before sets m n e

  -- a consumer that has set a callback doesn't give up
  kept : {ps : List (ProducerAct R K)} {cs : List (ConsumerAct C)} {acts : List (CoreAct R K C)} → Begins cs → IsMerge ps cs acts
      → (gives_up acts ≡ false) ⊎ (demand_in acts ≡ demanded.Nothing)
  kept nothing_comes merged = inl refl
  kept (callback_comes end) (consumer_first m) = inl (nothing_after end m).1
  kept (give_up_comes end) (consumer_first m) = inr (nothing_after end m).0
  kept begin (producer_first m) = kept begin m

  module _ (acts : List (CoreAct R K C)) (lawful : IsLawful acts) where
    pub results : (r : R) → Stands acts (result_of r) ↔ (offer_in acts ≡ offered.Result r)
    results r = ((λ at. offer_here acts lawful at.0 _ at.1 refl), (λ e. result_place acts r e))

    pub proxies : (k : K) → Stands acts (proxy_of k) ↔ (offer_in acts ≡ offered.Proxy k)
    proxies k = ((λ at. offer_here acts lawful at.0 _ at.1 refl), (λ e. proxy_place acts k e))

    pub callbacks : (c : Request C) → Stands acts (callback_of c) ↔ (demand_in acts ≡ demanded.Callback c)
    callbacks c = ((λ at. demand_here acts lawful at.0 c at.1), (λ e. callback_place acts c e))

    one_hand_over : (half other : Half) (r q : R) (c d : C) (a b : Bool) → HandOver acts half r c a → HandOver acts other q d b → (other ≡ half) × (q ≡ r) × (d ≡ c) × (b ≡ a)
    one_hand_over half other r q c d a b first second =
        let same = same_later acts lawful half other (by_producer.Result r) (by_producer.Result q) (by_consumer.Callback first.0) (by_consumer.Callback second.0) refl refl first.1 second.1 in
        let x : ◌≡◌ {A = ProducerAct R K} (by_producer.Result q) (by_producer.Result r) = same.1 in
        let y : ◌≡◌ {A = ConsumerAct C} (by_consumer.Callback second.0) (by_consumer.Callback first.0) = same.2 in
        let z : second.0 ≡ first.0 = cc in (
          same.0,
          cc,
          second.2 ∙ (ap (λ (w : Request C). w.callback) z ∙ sym first.2),
          second.3 ∙ ((λ i. inline_by (same.0 i) (z i).inline) ∙ sym first.3),
        )

    pub handed_once : HandsOverOnce acts
    handed_once i j r c e f =
        let one = one_later acts lawful i j _ _ e f in (
          one.0,
          (c, one.1, refl, refl),
          λ other handed. (same_later acts lawful one.0 other (by_producer.Result r) (by_producer.Result r) (by_consumer.Callback c) (by_consumer.Callback handed.0) refl refl one.1 handed.1).0,
        )

    pub once : ComesOnce acts
    once = record {
      producer = λ i j p q e f both. at_one_place acts lawful i j p q e f (same_kind p q both);
      consumer = λ i j c d e f both. at_one_turn acts lawful i j c d e f (same_turn c d both);
      hand_over = λ half other r q c d a b first second. one_hand_over half other r q c d a b first second;
      forwarding = λ half other c d k q first second.
          let same = same_later acts lawful half other (by_producer.Proxy k) (by_producer.Proxy q) (by_consumer.Callback c) (by_consumer.Callback d) refl refl first second in
          let x : ◌≡◌ {A = ProducerAct R K} (by_producer.Proxy q) (by_producer.Proxy k) = same.1 in let y : ◌≡◌ {A = ConsumerAct C} (by_consumer.Callback d) (by_consumer.Callback c) = same.2 in
          (same.0, cc, cc);
    }

    pub done_hands_over : (state_of acts ≡ Done) ↔ IsHandedOver acts
    done_hands_over = (
      (λ e.
          let t = done_parts (offer_in acts) (demand_in acts) e in
          let i = result_place acts t.0 t.2 in
          let j = callback_place acts t.1 t.3 in
          let one = one_later acts lawful i.0 j.0 _ _ i.1 j.1 in
          (one.0, t.0, t.1.callback, inline_by one.0 t.1.inline, (t.1, one.1, refl, refl))),
      (λ handed.
          let at = places acts handed.0 _ _ handed.4.1 in
          let o = offer_here acts lawful at.0 _ at.2 refl in
          let k = demand_here acts lawful at.1 _ at.3 in
          λ i. state_from (o i) (k i)),
    )

    pub empty_forwards : (state_of acts ≡ Empty) ↔ IsForwarded acts
    empty_forwards = (
      (λ e.
          let t = empty_parts (offer_in acts) (demand_in acts) e in
          let i = proxy_place acts t.0 t.2 in
          let j = callback_place acts t.1 t.3 in
          let one = one_later acts lawful i.0 j.0 _ _ i.1 j.1 in
          (one.0, t.1, t.0, one.1)),
      (λ passed.
          let at = places acts passed.0 _ _ passed.3 in
          let o = offer_here acts lawful at.0 _ at.2 refl in
          let k = demand_here acts lawful at.1 _ at.3 in
          λ i. state_from (o i) (k i)),
    )

    choice : (half : Half) → Frees acts half → ((c : Request C) × (demand_in acts ≡ demanded.Callback c) × (gives_up acts ≡ false)) ⊎ ((demand_in acts ≡ demanded.Nothing) × (gives_up acts ≡ true))
    choice half frees = let at = places acts half _ _ frees in chosen (begins_from lawful.of_consumer lawful.consumed) lawful.merge at.1 at.3

    pub leaves_offer : LeavesOffer acts
    leaves_offer half frees = ⊎_elim (λ t. rw (t.1, t.2) refl) (λ t. rw (t.0, t.1) refl) (choice half frees)

    -- where a callback stands nothing is left over
    nothing_left : (n : ℕ) (c : Request C) → slice_get acts n ≡ Some (callback_of c) → leftover_of acts ≡ offered.Nothing
    nothing_left n c at = ⊎_elim
        (λ (no : gives_up acts ≡ false). rw no refl)
        (λ none_set. let is = demand_here acts lawful n c at in let apart : demanded.Nothing ≡ demanded.Callback c = sym none_set ∙ is in cc)
        (kept (begins_from lawful.of_consumer lawful.consumed) lawful.merge)

    pub accounted : IsAccounted acts
    accounted = record {
      result = λ half r frees at. ⊎_elim
          (λ t. let j = callback_place acts t.0 t.1 in let one = one_later acts lawful at.0 j.0 _ _ at.1 j.1 in inl (one.0, t.0.callback, inline_by one.0 t.0.inline, (t.0, one.1, refl, refl)))
          (λ t. let o = offer_here acts lawful at.0 _ at.1 refl in inr (rw t.1 o))
          (choice half frees);
      proxy = λ half k frees at. ⊎_elim
          (λ t. let j = callback_place acts t.0 t.1 in let one = one_later acts lawful at.0 j.0 _ _ at.1 j.1 in inl (one.0, t.0, one.1))
          (λ t. let o = offer_here acts lawful at.0 _ at.1 refl in inr (rw t.1 o))
          (choice half frees);
      callback = λ half c frees at.
          let left = places acts half _ _ frees in ⊎_elim
          (λ t. let i = result_place acts t.0 t.1 in let one = one_later acts lawful i.0 at.0 _ _ i.1 at.1 in inl (one.0, t.0, (c, one.1, refl, refl)))
          (λ t. let i = proxy_place acts t.0 t.1 in let one = one_later acts lawful i.0 at.0 _ _ i.1 at.1 in inr (one.0, t.0, one.1))
          (set_before (sets_first lawful.of_producer lawful.produced) lawful.merge left.0 left.2);
      handed_over = λ maker r c inline handed. let at = places acts maker _ _ handed.1 in nothing_left at.1 handed.0 at.3;
      forwarded = λ maker c k passed. let at = places acts maker _ _ passed in nothing_left at.1 c at.3;
    }

    -- the producer's act at a place is the later one exactly where the consumer's stands before
    later_producer : (n : ℕ) (p : ProducerAct R K) (c : ConsumerAct C) → slice_get acts n ≡ Some (by.Producer p) → Stands (take n acts) (by.Consumer c) ↔ IsLater (take (suc n) acts) the.Producer p c
    later_producer n p c at = (
      (λ before. let e = get_take_within acts n before.0 _ before.1 in (before.0, n, e.0, get_take acts (suc n) before.0 (omega (arith, e.0)) ∙ e.1, get_take acts (suc n) n (omega arith) ∙ at)),
      (λ later.
          let there = get_take_within acts (suc n) later.1 _ later.4 in
          let here : later.1 ≡ n = at_one_place acts lawful later.1 n p p there.1 at refl in
          let first = get_take_within acts (suc n) later.0 _ later.3 in
          (later.0, get_take acts n later.0 (omega (arith, here, later.2)) ∙ first.1)),
    )

    later_consumer : (n : ℕ) (p : ProducerAct R K) (c : ConsumerAct C) → slice_get acts n ≡ Some (by.Consumer c) → Stands (take n acts) (by.Producer p) ↔ IsLater (take (suc n) acts) the.Consumer p c
    later_consumer n p c at = (
      (λ before. let e = get_take_within acts n before.0 _ before.1 in (before.0, n, e.0, get_take acts (suc n) before.0 (omega (arith, e.0)) ∙ e.1, get_take acts (suc n) n (omega arith) ∙ at)),
      (λ later.
          let there = get_take_within acts (suc n) later.1 _ later.4 in
          let here : later.1 ≡ n = at_one_turn acts lawful later.1 n c c there.1 at refl in
          let first = get_take_within acts (suc n) later.0 _ later.3 in
          (later.0, get_take acts n later.0 (omega (arith, here, later.2)) ∙ first.1)),
    )

    -- the one callback of the consumer
    one_turn : (n : ℕ) (p : ProducerAct R K) (c d : Request C) → slice_get acts n ≡ Some (callback_of c) → IsLater (take (suc n) acts) the.Consumer p (by_consumer.Callback d) → IsLater (take (suc n) acts) the.Consumer p (by_consumer.Callback c)
    one_turn n p c d at later =
        let there = get_take_within acts (suc n) later.1 _ later.4 in
        let here : later.1 ≡ n = at_one_turn acts lawful later.1 n (by_consumer.Callback d) (by_consumer.Callback c) there.1 at refl in
        (later.0, later.1, later.2, later.3, get_take acts (suc n) later.1 there.0 ∙ (ap (slice_get acts) here ∙ at))

    callback_found : (n : ℕ) (c : Request C) → Stands (take n acts) (callback_of c) → (later : State)
        → (state_after (state_of (take n acts)) SetResult ≡ Some later) ⊎ (state_after (state_of (take n acts)) SetProxy ≡ Some later) → state_of (take n acts) ≡ waiting_state c.inline
    callback_found n c at later row =
        let is = demand_here (take n acts) (lawful_before acts n lawful) at.0 c at.1 in
        let same : state_of (take n acts) ≡ state_from (offer_in (take n acts)) (demanded.Callback c) = ap (λ demand. state_from (offer_in (take n acts)) demand) is in
        same ∙ finds_callback (offer_in (take n acts)) c later (⊎_elim (λ e. inl (ap (λ s. state_after s SetResult) (sym same) ∙ e)) (λ e. inr (ap (λ s. state_after s SetProxy) (sym same) ∙ e)) row)

    pub finds_other : FindsOther acts
    finds_other = record {
      result = λ n r inline at. (
        (λ e.
            let t = waiting_parts _ _ inline e in
            let c : Request C = record { callback = t.0; inline = inline } in
            (t.0, (c, (later_producer n (by_producer.Result r) (by_consumer.Callback c) at).0 (callback_place (take n acts) c t.1), refl, refl))),
        (λ handed. callback_found n handed.1.0 ((later_producer n (by_producer.Result r) (by_consumer.Callback handed.1.0) at).1 handed.1.1) _ (inl (finds acts lawful n _ at)) ∙ ap waiting_state (sym handed.1.3)),
      );
      proxy = λ n k inline at. (
        (λ e.
            let t = waiting_parts _ _ inline e in
            let c : Request C = record { callback = t.0; inline = inline } in
            (t.0, (later_producer n (by_producer.Proxy k) (by_consumer.Callback c) at).0 (callback_place (take n acts) c t.1))),
        (λ passed.
            let c : Request C = record { callback = passed.0; inline = inline } in
            callback_found n c ((later_producer n (by_producer.Proxy k) (by_consumer.Callback c) at).1 passed.1) _ (inr (finds acts lawful n _ at))),
      );
      callback = λ n c at. (
        (λ e. let t = only_result_parts _ _ e in (t.0, (c, (later_consumer n (by_producer.Result t.0) (by_consumer.Callback c) at).0 (result_place (take n acts) t.0 t.1), refl, refl))),
        (λ handed.
            let before = (later_consumer n (by_producer.Result handed.0) (by_consumer.Callback c) at).1 (one_turn n (by_producer.Result handed.0) c handed.1.0 at handed.1.1) in
            finds_result _ _ handed.0 _ c.inline (offer_here (take n acts) (lawful_before acts n lawful) before.0 _ before.1 refl) (finds acts lawful n _ at)),
      );
      callback_passed_on = λ n c at. (
        (λ e. let t = proxy_parts _ _ e in (t.0, (later_consumer n (by_producer.Proxy t.0) (by_consumer.Callback c) at).0 (proxy_place (take n acts) t.0 t.1))),
        (λ passed.
            let first = (later_consumer n (by_producer.Proxy passed.0) (by_consumer.Callback c) at).1 passed.1 in
            finds_proxy _ _ passed.0 _ c.inline (offer_here (take n acts) (lawful_before acts n lawful) first.0 _ first.1 refl) (finds acts lawful n _ at)),
      );
    }
