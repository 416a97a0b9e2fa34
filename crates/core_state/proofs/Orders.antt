-- Which acts of a lawful schedule stand before which.
use Rattle.std.proofs.Common.{◌≡◌, ◌≢◌, ℕ, zero, suc, ◌<◌, ◌⊎◌, inl, inr, ⊎_elim, List, [], ◌∷◌, take, refl, sym, ap, ◌∙◌, Some, arith}
use Rattle.std.specs.Prelude.{slice_get}
use mathlib.Core.Logic.{dite}
use native.Mathlib.Decide.{dec_lt}
use Rattle.core_state.specs.declared.schedule.ProducerAct.{ProducerAct}
use Rattle.core_state.specs.declared.schedule.ProducerAct.TheVariants as by_producer
use Rattle.core_state.specs.declared.schedule.ConsumerAct.{ConsumerAct}
use Rattle.core_state.specs.declared.schedule.ConsumerAct.TheVariants as by_consumer
use Rattle.core_state.specs.declared.schedule.CoreAct.{CoreAct}
use Rattle.core_state.specs.declared.schedule.CoreAct.TheVariants as by
use Rattle.core_state.specs.declared.schedule.Half.{Half}
use Rattle.core_state.specs.declared.schedule.Half.TheVariants as the
use Rattle.core_state.specs.declared.schedule.Offer.{Offer}
use Rattle.core_state.specs.declared.schedule.Offer.TheVariants as offered
use Rattle.core_state.specs.Schedule.{IsMerge, merged, producer_first, consumer_first, IsLawful, IsLater}
use Rattle.core_state.specs.Laws.{OfOneHalf}
use Rattle.core_state.proofs.Schedules.{Ends, over, leaves, Goes, may_result, may_proxy, may_end, goes_from, ConsumerEnds, all_over, still_leaves, Begins, nothing_comes, callback_comes, give_up_comes, begins_from}

-- an act on the state, or a leave
abbrev pub p_kind : {R K : Type 0} → ProducerAct R K → ℕ
p_kind (by_producer.Result r) = 1
p_kind (by_producer.Proxy k) = 1
p_kind by_producer.Leave = 0

-- a choice, or a leave
abbrev pub c_kind : {C : Type 0} → ConsumerAct C → ℕ
c_kind (by_consumer.Callback c) = 1
c_kind by_consumer.GiveUp = 1
c_kind by_consumer.Leave = 0

apart : (i j : ℕ) → i ≢ j → (i < j) ⊎ (j < i)
apart i j ne = dite (dec_lt i j) (λ lt. inl lt) (λ not_lt. inr (omega (arith, ne, not_lt)))

pub get_take : {A : Type 0} (xs : List A) (n i : ℕ) → i < n → slice_get (take n xs) i ≡ slice_get xs i
get_take xs zero i lt = absurd (omega arith)
get_take [] (suc n) i lt = refl
get_take (x ∷ xs) (suc n) zero lt = refl
get_take (x ∷ xs) (suc n) (suc i) lt = get_take xs n i (omega arith)

pub get_take_within : {A : Type 0} (xs : List A) (n i : ℕ) (x : A) → slice_get (take n xs) i ≡ Some x → (i < n) × (slice_get xs i ≡ Some x)
get_take_within xs zero i x e = cc
get_take_within [] (suc n) i x e = cc
get_take_within (y ∷ xs) (suc n) zero x e = (omega arith, e)
get_take_within (y ∷ xs) (suc n) (suc i) x e = let r = get_take_within xs n i x e in let lt : i < n = r.0 in (omega arith, r.1)

module _ {R K C : Type 0} where
  pub no_producer : {cs : List (ConsumerAct C)} {acts : List (CoreAct R K C)} → IsMerge [] cs acts → (n : ℕ) (p : ProducerAct R K) → slice_get acts n ≡ Some (by.Producer p) → ⊥
  no_producer merged n p e = cc
  no_producer (consumer_first m) zero p e = cc
  no_producer (consumer_first m) (suc n) p e = no_producer m n p e

  pub only_leave : {ps : List (ProducerAct R K)} {cs : List (ConsumerAct C)} {acts : List (CoreAct R K C)} → Ends ps → IsMerge ps cs acts → (n : ℕ) (p : ProducerAct R K) → slice_get acts n ≡ Some (by.Producer p) → p_kind p ≡ 0
  only_leave over m n p e = absurd (no_producer m n p e)
  only_leave leaves (producer_first m) zero p e = let same : by_producer.Leave ≡ p = cc in ap p_kind (sym same)
  only_leave leaves (producer_first m) (suc n) p e = absurd (no_producer m n p e)
  only_leave leaves (consumer_first m) zero p e = cc
  only_leave leaves (consumer_first m) (suc n) p e = only_leave leaves m n p e

  -- of each kind a producer makes one act
  one_producer : {offer : Offer R K} {ps : List (ProducerAct R K)} {cs : List (ConsumerAct C)} {acts : List (CoreAct R K C)} → Goes offer ps → IsMerge ps cs acts → (i j : ℕ) (p q : ProducerAct R K)
      → slice_get acts i ≡ Some (by.Producer p) → slice_get acts j ≡ Some (by.Producer q) → p_kind p ≡ p_kind q → i ≡ j
  one_producer (may_end over) m i j p q e f k = absurd (no_producer m i p e)
  one_producer (may_end leaves) (producer_first m) zero zero p q e f k = refl
  one_producer (may_end leaves) (producer_first m) zero (suc j) p q e f k = absurd (no_producer m j q f)
  one_producer (may_end leaves) (producer_first m) (suc i) j p q e f k = absurd (no_producer m i p e)
  one_producer (may_result end) (producer_first m) zero zero p q e f k = refl
  one_producer (may_result {r} end) (producer_first m) zero (suc j) p q e f k = let same : by_producer.Result r ≡ p = cc in let a : p_kind p ≡ 1 = ap p_kind (sym same) in let b = only_leave end m j q f in absurd (omega (arith, a, b, k))
  one_producer (may_result {r} end) (producer_first m) (suc i) zero p q e f k = let same : by_producer.Result r ≡ q = cc in let a : p_kind q ≡ 1 = ap p_kind (sym same) in let b = only_leave end m i p e in absurd (omega (arith, a, b, k))
  one_producer (may_result end) (producer_first m) (suc i) (suc j) p q e f k = ap suc (one_producer {offer = offered.Nothing} (may_end end) m i j p q e f k)
  one_producer (may_proxy end) (producer_first m) zero zero p q e f k = refl
  one_producer (may_proxy {k = x} end) (producer_first m) zero (suc j) p q e f k = let same : by_producer.Proxy x ≡ p = cc in let a : p_kind p ≡ 1 = ap p_kind (sym same) in let b = only_leave end m j q f in absurd (omega (arith, a, b, k))
  one_producer (may_proxy {k = x} end) (producer_first m) (suc i) zero p q e f k = let same : by_producer.Proxy x ≡ q = cc in let a : p_kind q ≡ 1 = ap p_kind (sym same) in let b = only_leave end m i p e in absurd (omega (arith, a, b, k))
  one_producer (may_proxy end) (producer_first m) (suc i) (suc j) p q e f k = ap suc (one_producer {offer = offered.Nothing} (may_end end) m i j p q e f k)
  one_producer goes (consumer_first m) zero j p q e f k = cc
  one_producer goes (consumer_first m) (suc i) zero p q e f k = cc
  one_producer goes (consumer_first m) (suc i) (suc j) p q e f k = ap suc (one_producer goes m i j p q e f k)

  pub no_consumer : {ps : List (ProducerAct R K)} {acts : List (CoreAct R K C)} → IsMerge ps [] acts → (n : ℕ) (c : ConsumerAct C) → slice_get acts n ≡ Some (by.Consumer c) → ⊥
  no_consumer merged n c e = cc
  no_consumer (producer_first m) zero c e = cc
  no_consumer (producer_first m) (suc n) c e = no_consumer m n c e

  pub only_leaves : {ps : List (ProducerAct R K)} {cs : List (ConsumerAct C)} {acts : List (CoreAct R K C)} → ConsumerEnds cs → IsMerge ps cs acts → (n : ℕ) (c : ConsumerAct C) → slice_get acts n ≡ Some (by.Consumer c) → c_kind c ≡ 0
  only_leaves all_over m n c e = absurd (no_consumer m n c e)
  only_leaves still_leaves (consumer_first m) zero c e = let same : by_consumer.Leave ≡ c = cc in ap c_kind (sym same)
  only_leaves still_leaves (consumer_first m) (suc n) c e = absurd (no_consumer m n c e)
  only_leaves still_leaves (producer_first m) zero c e = cc
  only_leaves still_leaves (producer_first m) (suc n) c e = only_leaves still_leaves m n c e

  one_leave : {ps : List (ProducerAct R K)} {cs : List (ConsumerAct C)} {acts : List (CoreAct R K C)} → ConsumerEnds cs → IsMerge ps cs acts → (i j : ℕ) (c d : ConsumerAct C)
      → slice_get acts i ≡ Some (by.Consumer c) → slice_get acts j ≡ Some (by.Consumer d) → i ≡ j
  one_leave all_over m i j c d e f = absurd (no_consumer m i c e)
  one_leave still_leaves (consumer_first m) zero zero c d e f = refl
  one_leave still_leaves (consumer_first m) zero (suc j) c d e f = absurd (no_consumer m j d f)
  one_leave still_leaves (consumer_first m) (suc i) j c d e f = absurd (no_consumer m i c e)
  one_leave still_leaves (producer_first m) zero j c d e f = cc
  one_leave still_leaves (producer_first m) (suc i) zero c d e f = cc
  one_leave still_leaves (producer_first m) (suc i) (suc j) c d e f = ap suc (one_leave still_leaves m i j c d e f)

  -- of each kind a consumer makes one act
  one_consumer : {ps : List (ProducerAct R K)} {cs : List (ConsumerAct C)} {acts : List (CoreAct R K C)} → Begins cs → IsMerge ps cs acts → (i j : ℕ) (c d : ConsumerAct C)
      → slice_get acts i ≡ Some (by.Consumer c) → slice_get acts j ≡ Some (by.Consumer d) → c_kind c ≡ c_kind d → i ≡ j
  one_consumer nothing_comes m i j c d e f k = absurd (no_consumer m i c e)
  one_consumer (callback_comes end) (consumer_first m) zero zero c d e f k = refl
  one_consumer (callback_comes {c = x} end) (consumer_first m) zero (suc j) c d e f k = let same : by_consumer.Callback x ≡ c = cc in let a : c_kind c ≡ 1 = ap c_kind (sym same) in let b = only_leaves end m j d f in absurd (omega (arith, a, b, k))
  one_consumer (callback_comes {c = x} end) (consumer_first m) (suc i) zero c d e f k = let same : by_consumer.Callback x ≡ d = cc in let a : c_kind d ≡ 1 = ap c_kind (sym same) in let b = only_leaves end m i c e in absurd (omega (arith, a, b, k))
  one_consumer (callback_comes end) (consumer_first m) (suc i) (suc j) c d e f k = ap suc (one_leave end m i j c d e f)
  one_consumer (give_up_comes end) (consumer_first m) zero zero c d e f k = refl
  one_consumer (give_up_comes end) (consumer_first m) zero (suc j) c d e f k = let same : by_consumer.GiveUp ≡ c = cc in let a : c_kind c ≡ 1 = ap c_kind (sym same) in let b = only_leaves end m j d f in absurd (omega (arith, a, b, k))
  one_consumer (give_up_comes end) (consumer_first m) (suc i) zero c d e f k = let same : by_consumer.GiveUp ≡ d = cc in let a : c_kind d ≡ 1 = ap c_kind (sym same) in let b = only_leaves end m i c e in absurd (omega (arith, a, b, k))
  one_consumer (give_up_comes end) (consumer_first m) (suc i) (suc j) c d e f k = ap suc (one_leave end m i j c d e f)
  one_consumer begin (producer_first m) zero j c d e f k = cc
  one_consumer begin (producer_first m) (suc i) zero c d e f k = cc
  one_consumer begin (producer_first m) (suc i) (suc j) c d e f k = ap suc (one_consumer begin m i j c d e f k)

  module _ (acts : List (CoreAct R K C)) (lawful : IsLawful acts) where
    pub at_one_place : (i j : ℕ) (p q : ProducerAct R K) → slice_get acts i ≡ Some (by.Producer p) → slice_get acts j ≡ Some (by.Producer q) → p_kind p ≡ p_kind q → i ≡ j
    at_one_place = one_producer (goes_from lawful.of_producer lawful.produced) lawful.merge

    pub at_one_turn : (i j : ℕ) (c d : ConsumerAct C) → slice_get acts i ≡ Some (by.Consumer c) → slice_get acts j ≡ Some (by.Consumer d) → c_kind c ≡ c_kind d → i ≡ j
    at_one_turn = one_consumer (begins_from lawful.of_consumer lawful.consumed) lawful.merge

    -- of one kind of pair there is one
    pub same_later : (half other : Half) (p q : ProducerAct R K) (c d : ConsumerAct C) → p_kind p ≡ p_kind q → c_kind c ≡ c_kind d → IsLater acts half p c → IsLater acts other q d → (other ≡ half) × (q ≡ p) × (d ≡ c)
    same_later the.Producer the.Producer p q c d k l (i, j, lt, at_c, at_p) (i', j', lt', at_d, at_q) =
        let same_p : j ≡ j' = at_one_place j j' p q at_p at_q k in
        let same_c : i ≡ i' = at_one_turn i i' c d at_c at_d l in
        let ps : Some (by.Producer p) ≡ Some (by.Producer q) = sym at_p ∙ (ap (slice_get acts) same_p ∙ at_q) in
        let cs : Some (by.Consumer c) ≡ Some (by.Consumer d) = sym at_c ∙ (ap (slice_get acts) same_c ∙ at_d) in
        (refl, cc, cc)
    same_later the.Consumer the.Consumer p q c d k l (i, j, lt, at_p, at_c) (i', j', lt', at_q, at_d) =
        let same_p : i ≡ i' = at_one_place i i' p q at_p at_q k in
        let same_c : j ≡ j' = at_one_turn j j' c d at_c at_d l in
        let ps : Some (by.Producer p) ≡ Some (by.Producer q) = sym at_p ∙ (ap (slice_get acts) same_p ∙ at_q) in
        let cs : Some (by.Consumer c) ≡ Some (by.Consumer d) = sym at_c ∙ (ap (slice_get acts) same_c ∙ at_d) in
        (refl, cc, cc)
    same_later the.Producer the.Consumer p q c d k l (i, j, lt, at_c, at_p) (i', j', lt', at_q, at_d) =
        let same_p : j ≡ i' = at_one_place j i' p q at_p at_q k in
        let same_c : i ≡ j' = at_one_turn i j' c d at_c at_d l in
        absurd (omega arith)
    same_later the.Consumer the.Producer p q c d k l (i, j, lt, at_p, at_c) (i', j', lt', at_d, at_q) =
        let same_p : i ≡ j' = at_one_place i j' p q at_p at_q k in
        let same_c : j ≡ i' = at_one_turn j i' c d at_c at_d l in
        absurd (omega arith)

    later_half : (i j : ℕ) (p : ProducerAct R K) (c : ConsumerAct C) → slice_get acts i ≡ Some (by.Producer p) → slice_get acts j ≡ Some (by.Consumer c) → (half : Half) × IsLater acts half p c
    later_half i j p c e f =
        let ne : i ≢ j = λ same. let both : Some (by.Producer p) ≡ Some (by.Consumer c) = sym e ∙ (ap (slice_get acts) same ∙ f) in cc in
        ⊎_elim (λ lt. (the.Consumer, (i, j, lt, e, f))) (λ gt. (the.Producer, (j, i, gt, f, e))) (apart i j ne)

    pub one_later : (i j : ℕ) (p : ProducerAct R K) (c : ConsumerAct C) → slice_get acts i ≡ Some (by.Producer p) → slice_get acts j ≡ Some (by.Consumer c) → OfOneHalf (λ half. IsLater acts half p c)
    one_later i j p c e f = let r = later_half i j p c e f in (r.0, r.1, λ other later. (same_later r.0 other p p c c refl refl r.1 later).0)
