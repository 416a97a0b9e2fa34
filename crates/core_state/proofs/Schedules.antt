-- The fold of the table over every lawful schedule.
use Rattle.std.proofs.Common.{◌≡◌, ℕ, zero, suc, ◌⊎◌, inl, inr, ⊎_elim, List, [], ◌∷◌, ◌++◌, take, drop, refl, sym, ap, ◌∙◌, subst, Option, Some, None}
use Rattle.std.specs.Prelude.{Bool, true, false, slice_get, ◌↔◌}
use Rattle.std.proofs.lemmas.List.{take-take}
use Rattle.core_state.specs.declared.table.State.{State}
use Rattle.core_state.specs.declared.table.State.TheVariants.{Start, OnlyResult, OnlyCallback, Proxy, Done, Empty, OnlyCallbackAllowInline}
use Rattle.core_state.specs.declared.table.Act.{Act}
use Rattle.core_state.specs.declared.table.Act.TheVariants.{SetResult, SetProxy, SetCallback, SetCallbackInline}
use Rattle.core_state.specs.declared.schedule.ProducerAct.{ProducerAct}
use Rattle.core_state.specs.declared.schedule.ProducerAct.TheVariants as by_producer
use Rattle.core_state.specs.declared.schedule.ConsumerAct.{ConsumerAct}
use Rattle.core_state.specs.declared.schedule.ConsumerAct.TheVariants as by_consumer
use Rattle.core_state.specs.declared.schedule.CoreAct.{CoreAct}
use Rattle.core_state.specs.declared.schedule.CoreAct.TheVariants as by
use Rattle.core_state.specs.declared.schedule.Offer.{Offer}
use Rattle.core_state.specs.declared.schedule.Offer.TheVariants as offered
use Rattle.core_state.specs.declared.schedule.Demand.{Demand}
use Rattle.core_state.specs.declared.schedule.Demand.TheVariants as demanded
use Rattle.core_state.specs.declared.schedule.Request.{Request}
use Rattle.core_state.specs.Table.{state_after, waiting_state, setting_act}
use Rattle.core_state.specs.Schedule.{IsProducerList, result_list, proxy_list, IsConsumerList, callback_list, give_up_list, IsMerge, merged, producer_first, consumer_first, IsLawful, state_from, state_after_exchange, offer_in, demand_in, state_of, exchange_of, run, fold_of}
use Rattle.core_state.specs.Laws.{IsFinal, FindsEachState, StaysFinal}

take_of_take : {A : Type 0} (m n : ℕ) (xs : List A) → (k : ℕ) × (take m (take n xs) ≡ take k xs)
take_of_take zero n xs = (0, refl)
take_of_take (suc m) zero xs = (0, refl)
take_of_take (suc m) (suc n) [] = (0, refl)
take_of_take (suc m) (suc n) (x ∷ xs) = let r = take_of_take m n xs in (suc r.0, ap (λ ys. x ∷ ys) r.1)

pub take_with : {A : Type 0} (xs : List A) (n : ℕ) (x : A) → slice_get xs n ≡ Some x → take (suc n) xs ≡ take n xs ++ x ∷ []
take_with [] n x e = cc
take_with (y ∷ ys) zero x e = let same : y ≡ x = cc in ap (λ z. z ∷ []) same
take_with (y ∷ ys) (suc n) x e = ap (λ zs. y ∷ zs) (take_with ys n x e)

some_injective : {x y : State} → Some x ≡ Some y → x ≡ y
some_injective e = cc

ends_final : (state : State) → (state ≡ Done) ⊎ (state ≡ Empty) → IsFinal state
ends_final state is_end act = ⊎_elim (λ e. ap (λ s. state_after s act) e ∙ from_done act) (λ e. ap (λ s. state_after s act) e ∙ from_empty act) is_end
  where
    from_done : (act : Act) → state_after Done act ≡ None
    from_done SetResult = refl
    from_done SetProxy = refl
    from_done SetCallback = refl
    from_done SetCallbackInline = refl

    from_empty : (act : Act) → state_after Empty act ≡ None
    from_empty SetResult = refl
    from_empty SetProxy = refl
    from_empty SetCallback = refl
    from_empty SetCallbackInline = refl

final_ends : (state : State) → IsFinal state → (state ≡ Done) ⊎ (state ≡ Empty)
final_ends Start final = let e = final SetCallback in cc
final_ends OnlyResult final = let e = final SetCallback in cc
final_ends OnlyCallback final = let e = final SetResult in cc
final_ends Proxy final = let e = final SetCallback in cc
final_ends Done final = inl refl
final_ends Empty final = inr refl
final_ends OnlyCallbackAllowInline final = let e = final SetResult in cc

-- The rows of a waiting callback are the same with the allowance and without it.
pub result_after : (a : Bool) → state_after (waiting_state a) SetResult ≡ Some Done
result_after true = refl
result_after false = refl

pub proxy_after : (a : Bool) → state_after (waiting_state a) SetProxy ≡ Some Empty
proxy_after true = refl
proxy_after false = refl

waits_after : (a : Bool) → state_after Start (setting_act a) ≡ Some (waiting_state a)
waits_after true = refl
waits_after false = refl

done_after : (a : Bool) → state_after OnlyResult (setting_act a) ≡ Some Done
done_after true = refl
done_after false = refl

empty_after : (a : Bool) → state_after Proxy (setting_act a) ≡ Some Empty
empty_after true = refl
empty_after false = refl

-- the states without a row are Done and Empty
pub final_states : (state : State) → IsFinal state ↔ ((state ≡ Done) ⊎ (state ≡ Empty))
final_states state = (final_ends state, ends_final state)

module _ {R K : Type 0} where
  -- what is left of a producer's acts once it has set something: its leave at most
  pub data Ends : List (ProducerAct R K) → Type 0 where
    over : Ends []
    leaves : Ends (by_producer.Leave ∷ [])

  -- the acts that may still come of a producer that has set this
  pub data Goes : Offer R K → List (ProducerAct R K) → Type 0 where
    may_result : {r : R} {ps : List (ProducerAct R K)} → Ends ps → Goes offered.Nothing (by_producer.Result r ∷ ps)
    may_proxy : {k : K} {ps : List (ProducerAct R K)} → Ends ps → Goes offered.Nothing (by_producer.Proxy k ∷ ps)
    may_end : {offer : Offer R K} {ps : List (ProducerAct R K)} → Ends ps → Goes offer ps

  pub goes_from : {ps : List (ProducerAct R K)} → IsProducerList ps → (n : ℕ) → Goes offered.Nothing (take n ps)
  goes_from (result_list r) zero = may_end over
  goes_from (result_list r) (suc zero) = may_result over
  goes_from (result_list r) (suc (suc zero)) = may_result leaves
  goes_from (result_list r) (suc (suc (suc n))) = may_result leaves
  goes_from (proxy_list k) zero = may_end over
  goes_from (proxy_list k) (suc zero) = may_proxy over
  goes_from (proxy_list k) (suc (suc zero)) = may_proxy leaves
  goes_from (proxy_list k) (suc (suc (suc n))) = may_proxy leaves

  -- the first of two offers that is one
  abbrev pub either_offer : Offer R K → Offer R K → Offer R K
  either_offer offered.Nothing later = later
  either_offer (offered.Result r) later = offered.Result r
  either_offer (offered.Proxy k) later = offered.Proxy k

  pub no_later_offer : (offer : Offer R K) → either_offer offer offered.Nothing ≡ offer
  no_later_offer offered.Nothing = refl
  no_later_offer (offered.Result r) = refl
  no_later_offer (offered.Proxy k) = refl

module _ {C : Type 0} where
  pub data ConsumerEnds : List (ConsumerAct C) → Type 0 where
    all_over : ConsumerEnds []
    still_leaves : ConsumerEnds (by_consumer.Leave ∷ [])

  -- the acts that may still come of a consumer that has done nothing
  pub data Begins : List (ConsumerAct C) → Type 0 where
    nothing_comes : Begins []
    callback_comes : {c : Request C} {cs : List (ConsumerAct C)} → ConsumerEnds cs → Begins (by_consumer.Callback c ∷ cs)
    give_up_comes : {cs : List (ConsumerAct C)} → ConsumerEnds cs → Begins (by_consumer.GiveUp ∷ cs)

  -- the acts that may still come of a consumer that has set this
  pub data Follows : Demand C → List (ConsumerAct C) → Type 0 where
    begins : {cs : List (ConsumerAct C)} → Begins cs → Follows demanded.Nothing cs
    ends : {demand : Demand C} {cs : List (ConsumerAct C)} → ConsumerEnds cs → Follows demand cs

  pub begins_from : {cs : List (ConsumerAct C)} → IsConsumerList cs → (n : ℕ) → Begins (take n cs)
  begins_from (callback_list c) zero = nothing_comes
  begins_from (callback_list c) (suc zero) = callback_comes all_over
  begins_from (callback_list c) (suc (suc zero)) = callback_comes still_leaves
  begins_from (callback_list c) (suc (suc (suc n))) = callback_comes still_leaves
  begins_from give_up_list zero = nothing_comes
  begins_from give_up_list (suc zero) = give_up_comes all_over
  begins_from give_up_list (suc (suc zero)) = give_up_comes still_leaves
  begins_from give_up_list (suc (suc (suc n))) = give_up_comes still_leaves

  -- the first of two demands that is one
  abbrev pub either_demand : Demand C → Demand C → Demand C
  either_demand demanded.Nothing later = later
  either_demand (demanded.Callback c) later = demanded.Callback c

  pub no_later_demand : (demand : Demand C) → either_demand demand demanded.Nothing ≡ demand
  no_later_demand demanded.Nothing = refl
  no_later_demand (demanded.Callback c) = refl

module _ {R K C : Type 0} where
  -- from the state of what both have set, the fold gives the state of that and of what they still set
  folds_on : {ps : List (ProducerAct R K)} {cs : List (ConsumerAct C)} {acts : List (CoreAct R K C)} (offer : Offer R K) (demand : Demand C)
      → IsMerge ps cs acts → Goes offer ps → Follows demand cs
      → run (Some (state_from offer demand)) acts ≡ Some (state_from (either_offer offer (offer_in acts)) (either_demand demand (demand_in acts)))
  folds_on offer demand merged goes follows = λ i. Some (state_from (sym (no_later_offer offer) i) (sym (no_later_demand demand) i))
  folds_on offered.Nothing demanded.Nothing (producer_first {p = by_producer.Result r} m) (may_result e) follows = folds_on (offered.Result r) demanded.Nothing m (may_end e) follows
  folds_on offered.Nothing (demanded.Callback c) (producer_first {p = by_producer.Result r} {schedule = later} m) (may_result e) follows = ap (λ found. run found later) (result_after c.inline) ∙ folds_on (offered.Result r) (demanded.Callback c) m (may_end e) follows
  folds_on offered.Nothing demanded.Nothing (producer_first {p = by_producer.Proxy k} m) (may_proxy e) follows = folds_on (offered.Proxy k) demanded.Nothing m (may_end e) follows
  folds_on offered.Nothing (demanded.Callback c) (producer_first {p = by_producer.Proxy k} {schedule = later} m) (may_proxy e) follows = ap (λ found. run found later) (proxy_after c.inline) ∙ folds_on (offered.Proxy k) (demanded.Callback c) m (may_end e) follows
  folds_on offer demand (producer_first m) (may_end leaves) follows = folds_on offer demand m (may_end over) follows
  folds_on offered.Nothing demanded.Nothing (consumer_first {c = by_consumer.Callback d} {schedule = later} m) goes (begins (callback_comes e)) = ap (λ found. run found later) (waits_after d.inline) ∙ folds_on offered.Nothing (demanded.Callback d) m goes (ends e)
  folds_on (offered.Result r) demanded.Nothing (consumer_first {c = by_consumer.Callback d} {schedule = later} m) goes (begins (callback_comes e)) = ap (λ found. run found later) (done_after d.inline) ∙ folds_on (offered.Result r) (demanded.Callback d) m goes (ends e)
  folds_on (offered.Proxy k) demanded.Nothing (consumer_first {c = by_consumer.Callback d} {schedule = later} m) goes (begins (callback_comes e)) = ap (λ found. run found later) (empty_after d.inline) ∙ folds_on (offered.Proxy k) (demanded.Callback d) m goes (ends e)
  folds_on offer demanded.Nothing (consumer_first m) goes (begins (give_up_comes e)) = folds_on offer demanded.Nothing m goes (ends e)
  folds_on offer demand (consumer_first m) goes (ends still_leaves) = folds_on offer demand m goes (ends all_over)

  pub folds : (acts : List (CoreAct R K C)) → IsLawful acts → fold_of acts ≡ Some (state_of acts)
  folds acts lawful = folds_on offered.Nothing demanded.Nothing lawful.merge (goes_from lawful.of_producer lawful.produced) (begins (begins_from lawful.of_consumer lawful.consumed))

  merge_before : {ps : List (ProducerAct R K)} {cs : List (ConsumerAct C)} {acts : List (CoreAct R K C)} → IsMerge ps cs acts → (n : ℕ)
      → (i : ℕ) × (j : ℕ) × IsMerge (take i ps) (take j cs) (take n acts)
  merge_before merged zero = (0, 0, merged)
  merge_before merged (suc n) = (0, 0, merged)
  merge_before (producer_first m) zero = (0, 0, merged)
  merge_before (producer_first m) (suc n) = let r = merge_before m n in (suc r.0, r.1, producer_first r.2)
  merge_before (consumer_first m) zero = (0, 0, merged)
  merge_before (consumer_first m) (suc n) = let r = merge_before m n in (r.0, suc r.1, consumer_first r.2)

  pub lawful_before : (acts : List (CoreAct R K C)) (n : ℕ) → IsLawful acts → IsLawful (take n acts)
  lawful_before acts n lawful =
      let m = merge_before lawful.merge n in
      let i = take_of_take m.0 lawful.produced lawful.producer in
      let j = take_of_take m.1 lawful.consumed lawful.consumer in
      let first = subst (λ ps. IsMerge ps (take m.1 (take lawful.consumed lawful.consumer)) (take n acts)) i.1 m.2 in
      let second = subst (λ cs. IsMerge (take i.0 lawful.producer) cs (take n acts)) j.1 first in
      record { producer = lawful.producer; consumer = lawful.consumer; of_producer = lawful.of_producer; of_consumer = lawful.of_consumer; produced = i.0; consumed = j.0; merge = second }

  run_none : (acts : List (CoreAct R K C)) → run None acts ≡ None
  run_none [] = refl
  run_none (act ∷ acts) = refl

  run-append : (found : Option State) (xs ys : List (CoreAct R K C)) → run found (xs ++ ys) ≡ run (run found xs) ys
  run-append found [] ys = refl
  run-append (Some state) (x ∷ xs) ys = run-append (state_after_exchange state (exchange_of x)) xs ys
  run-append None (x ∷ xs) ys = sym (run_none ys)

  pub finds : (acts : List (CoreAct R K C)) → IsLawful acts → FindsEachState acts
  finds acts lawful n act at =
      let before = folds (take n acts) (lawful_before acts n lawful) in
      let after = folds (take (suc n) acts) (lawful_before acts (suc n) lawful) in
      let both : fold_of (take (suc n) acts) ≡ run (fold_of (take n acts)) (act ∷ []) = ap fold_of (take_with acts n act at) ∙ run-append (Some Start) (take n acts) (act ∷ []) in
      let step : run (fold_of (take n acts)) (act ∷ []) ≡ state_after_exchange (state_of (take n acts)) (exchange_of act) = ap (λ found. run found (act ∷ [])) before in
      sym step ∙ (sym both ∙ after)

  offer_split : (acts : List (CoreAct R K C)) (n : ℕ) → offer_in acts ≡ either_offer (offer_in (take n acts)) (offer_in (drop n acts))
  offer_split acts zero = refl
  offer_split [] (suc n) = refl
  offer_split (by.Producer (by_producer.Result r) ∷ acts) (suc n) = refl
  offer_split (by.Producer (by_producer.Proxy k) ∷ acts) (suc n) = refl
  offer_split (by.Producer by_producer.Leave ∷ acts) (suc n) = offer_split acts n
  offer_split (by.Consumer c ∷ acts) (suc n) = offer_split acts n

  demand_split : (acts : List (CoreAct R K C)) (n : ℕ) → demand_in acts ≡ either_demand (demand_in (take n acts)) (demand_in (drop n acts))
  demand_split acts zero = refl
  demand_split [] (suc n) = refl
  demand_split (by.Consumer (by_consumer.Callback c) ∷ acts) (suc n) = refl
  demand_split (by.Consumer by_consumer.GiveUp ∷ acts) (suc n) = demand_split acts n
  demand_split (by.Consumer by_consumer.Leave ∷ acts) (suc n) = demand_split acts n
  demand_split (by.Producer p ∷ acts) (suc n) = demand_split acts n

  final_stays : (offer later : Offer R K) (demand more : Demand C) → IsFinal (state_from offer demand) → state_from (either_offer offer later) (either_demand demand more) ≡ state_from offer demand
  final_stays offered.Nothing later demanded.Nothing more final = let e = final SetResult in cc
  final_stays offered.Nothing later (demanded.Callback c) more final = let e : Some Done ≡ None = sym (result_after c.inline) ∙ final SetResult in cc
  final_stays (offered.Result r) later demanded.Nothing more final = let e = final SetCallback in cc
  final_stays (offered.Proxy k) later demanded.Nothing more final = let e = final SetCallback in cc
  final_stays (offered.Result r) later (demanded.Callback c) more final = refl
  final_stays (offered.Proxy k) later (demanded.Callback c) more final = refl

  final_state : (acts : List (CoreAct R K C)) (n : ℕ) → IsFinal (state_of (take n acts)) → state_of acts ≡ state_of (take n acts)
  final_state acts n final =
      (λ i. state_from (offer_split acts n i) (demand_split acts n i))
      ∙ final_stays (offer_in (take n acts)) (offer_in (drop n acts)) (demand_in (take n acts)) (demand_in (drop n acts)) final

  pub stays : (acts : List (CoreAct R K C)) → IsLawful acts → StaysFinal acts
  stays acts lawful n m state is_end le found =
      let before : state_of (take n acts) ≡ state = some_injective (sym (folds (take n acts) (lawful_before acts n lawful)) ∙ found) in
      let part : state_of (take n (take m acts)) ≡ state = ap state_of (take-take n m acts le) ∙ before in
      let same : state_of (take m acts) ≡ state_of (take n (take m acts)) = final_state (take m acts) n (subst IsFinal (sym part) (ends_final state is_end)) in
      folds (take m acts) (lawful_before acts m lawful) ∙ ap Some (same ∙ part)
