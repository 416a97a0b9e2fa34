-- What both halves of one use say of each other, and which seats exclude each other.
use Rattle.std.proofs.Common.{◌≡◌, ◌≢◌, ℕ, ◌<◌, inl, inr, ⊎_elim, List, sym, ap, ◌∙◌, subst, arith}
use Rattle.std.specs.Prelude.{slice_set, slice_index}
use mathlib.Core.Option as maybe
use mathlib.Core.Option.{some-injective}
use mathlib.Core.Logic.{dite}
use native.Mathlib.Decide.{ℕ_discrete}
use lib.ListN.{get_elem?}
use Rattle.fan_base.specs.declared.outcome.Try.{Try}
use Rattle.core_state.specs.declared.schedule.Offer.{Offer}
use Rattle.core_state.specs.declared.schedule.Demand.{Demand}
use Rattle.core_state.specs.declared.schedule.Demand.TheVariants as demanded
use Rattle.atomic_table.specs.Table.{keeps, Allows, Joins}
use Rattle.atomic_table.proofs.Lists.{set_here, set_else}
use Rattle.core_word.specs.declared.view.Learned.{Learned}
use Rattle.core_state.specs.declared.schedule.Half.{Half}
use Rattle.core_word.specs.declared.view.Departure.{Departure}
use Rattle.core_word.specs.declared.view.Departure.TheVariants as departed
use Rattle.core_word.specs.declared.view.ProducerPhase.{ProducerPhase}
use Rattle.core_word.specs.declared.view.ProducerPhase.TheVariants as producer
use Rattle.core_word.specs.declared.view.ConsumerPhase.{ConsumerPhase}
use Rattle.core_word.specs.declared.view.ConsumerPhase.TheVariants as consumer
use Rattle.core_word.specs.declared.view.View.{View}
use Rattle.core_word.specs.declared.view.View.TheVariants as view
use Rattle.core_word.specs.Views.{use_of, offer_in_view, IsFirstLeave}
use Rattle.core_word.specs.Rule.{Held, Fit, IsPast, IsFirstOf, words_of, homes_of, StandsFor}
use Rattle.core_word.specs.Plays.{Standing, consumer_acted, leaving, both_halves, compares}
use Rattle.core_word.proofs.Firsts.{one_view, once_plain, once_of, first_of_use}
use Rattle.core_word.proofs.Owing.{IsLive, within, of_unbegun, of_begun, of_over, of_reopening, of_joined, beside_producer}
use Rattle.core_word.proofs.Beginning.{key_begins}
use Rattle.core_word.proofs.Reopening.{husk_ends}

module _ {T C P : Type 0} where
  -- the view of a consumer that has left
  pub left_view : (d : Departure) (v : View T C P) (u : ℕ) (demand : Demand C) (got : Offer (Try T) P) → v ≡ (consumer_acted u demand got).0 → got ≡ offer_in_view v → leaving d v ≡ view.Consumer u (consumer.Acted demand got d)
  left_view d v u demanded.Nothing got e g = ap (leaving d) e ∙ ap (λ (o : Offer (Try T) P). view.Consumer u (consumer.Acted demanded.Nothing o d)) (sym (g ∙ ap offer_in_view e))
  left_view d v u (demanded.Callback c) got e g = ap (leaving d) e

  -- A producer's seat takes in the seat of the consumer of its use, which has left.
  pub halves_join : (id other u : ℕ) (learned : Learned) (offer : Offer (Try T) P) (got : Demand C) (demand : Demand C) (got' : Offer (Try T) P) (d : Departure) → d ≢ departed.No
      → Joins StandsFor id (view.Producer u (producer.Acted offer got departed.No) learned) other (view.Consumer u (consumer.Acted demand got' d))
      (view.Joined u (producer.Acted offer got departed.No) (consumer.Acted demand got' d)) view.Spent
  halves_join id other u learned offer got demand got' d gone s holds at apart there =
      let p : ProducerPhase T C P = producer.Acted offer got departed.No in
      let c : ConsumerPhase T C P = consumer.Acted demand got' d in
      let both : View T C P = view.Joined u p c in
      let b = beside_producer s id u p learned (λ e. cc) at holds in
      let beside : get_elem? s.views other ≡ maybe.some (view.Consumer u c) = sym (set_else s.views id other both apart) ∙ there in
      let here : other ≡ b.consumer = dite (ℕ_discrete other b.consumer)
      (λ e. e)
      (λ ne. let past = b.others other _ apart ne beside in let less : u < u = past.0 in absurd (omega arith)) in
      let same = one_view s.views other b.consumer _ _ beside b.at_c here in
      let phase : c ≡ b.c = cc in
      inr (inr (inr (inr record {
        seat = id;
        number = u;
        p = p;
        c = c;
        at = set_else (slice_set s.views id both) other id view.Spent (λ e. apart (sym e)) ∙ set_here s.views id both (within s.views id _ at);
        others = λ k v ne e. dite (ℕ_discrete k other)
            (λ x. subst (λ w. IsPast u w) (one_view (slice_set (slice_set s.views id both) other view.Spent) other k view.Spent v (set_here (slice_set s.views id both) other view.Spent (within _ other _ there)) e (sym x)) tt)
            (λ nx. b.others k v ne (λ x. nx (x ∙ sym here)) (sym (set_else s.views id k both ne) ∙ (sym (set_else (slice_set s.views id both) other k view.Spent nx) ∙ e)));
        words = b.words ∙ ap (λ q. words_of p q) (sym phase);
        homes = b.homes ∙ ap (λ q. homes_of p q) (sym phase);
        fit = subst (λ q. Fit p q) (sym phase) b.fit;
        once = once_plain (slice_set s.views id both) other view.Spent (within (slice_set s.views id both) other _ there) (once_plain s.views id both (within s.views id _ at) b.once (λ n first. first)) (λ n first. first);
      })))

  -- A seat that has both halves sees that they fit.
  pub joined_fits : (slots id u : ℕ) (cs : List (ℕ × Held T C P)) (p : ProducerPhase T C P) (c : ConsumerPhase T C P) → Allows StandsFor slots id (view.Joined u p c, cs) 0 (λ n. n) (compares (view.Joined u p c, cs))
  joined_fits slots id u cs p c s (inl b) long at small = let r = of_unbegun s id _ at (λ n past. past) b in let e = r.1 in cc
  joined_fits slots id u cs p c s (inr (inl b)) long at small = absurd (⊎_elim
      (λ (r : (id ≡ b.producer) × (view.Joined u p c ≡ view.Producer b.number b.p b.learned)). let e = r.1 in cc)
      (λ (r : (id ≡ b.consumer) × (view.Joined u p c ≡ view.Consumer b.number b.c)). let e = r.1 in cc)
      (of_begun s id _ at (λ n past. past) b))
  joined_fits slots id u cs p c s (inr (inr (inl b))) long at small = let r = of_over s id _ at (λ n past. past) b in let e = r.1 in cc
  joined_fits slots id u cs p c s (inr (inr (inr (inl b)))) long at small = let r = of_reopening s id _ at (λ n past. past) b in let e = r.1 in cc
  joined_fits slots id u cs p c s (inr (inr (inr (inr b)))) long at small =
      let r = of_joined s id _ at (λ n past. past) b in
      let same = r.1 in
      let first : p ≡ b.p = cc in
      let second : c ≡ b.c = cc in
      let w : View T C P = view.Joined u p c in
      let number : u ≡ b.number = cc in (
        w,
        keeps,
        tt,
        inr (inr (inr (inr record {
          seat = id;
          number = u;
          p = b.p;
          c = b.c;
          at = set_here s.views id w (within s.views id _ at) ∙ ap (λ x. maybe.some x) (same ∙ ap (λ n. view.Joined n b.p b.c) (sym number));
          others = λ k v ne e. subst (λ n. IsPast n v) (sym number) (b.others k v (λ x. ne (x ∙ sym r.0)) (sym (set_else s.views id k w ne) ∙ e));
          words = ap (λ ws. slice_set ws 0 (slice_index ws 0)) b.words;
          homes = b.homes;
          fit = b.fit;
          once = once_plain s.views id w (within s.views id _ at) b.once (λ n first. first);
        }))),
        subst (λ q. Fit q c) (sym first) (subst (λ q. Fit b.p q) (sym second) b.fit),
      )

  -- the same over views that are known by equations
  module _ (u n : ℕ) (learned : Learned) (offer : Offer (Try T) P) (got demand : Demand C) (got' : Offer (Try T) P) (d : Departure) (v w : View T C P)
      (is_v : v ≡ view.Producer u (producer.Acted offer got departed.No) learned) (is_w : w ≡ view.Consumer n (consumer.Acted demand got' d)) (one_use : u ≡ n) where
    with_one_use : w ≡ view.Consumer u (consumer.Acted demand got' d)
    with_one_use = is_w ∙ ap (λ m. view.Consumer m (consumer.Acted demand got' d)) (sym one_use)

    pub halves_joined : (id other : ℕ) → d ≢ departed.No → Joins StandsFor id v other w (both_halves v w) view.Spent
    halves_joined id other gone = subst (λ (z : View T C P × View T C P). Joins StandsFor id z.0 other z.1 (both_halves z.0 z.1) view.Spent) (λ i. (sym is_v i, sym with_one_use i)) (halves_join id other u learned offer got demand got' d gone)

    both_is : both_halves v w ≡ view.Joined u (producer.Acted offer got departed.No) (consumer.Acted demand got' d)
    both_is = ap (λ (z : View T C P × View T C P). both_halves z.0 z.1) (λ i. (is_v i, with_one_use i))

    pub joined_looks : (slots id : ℕ) (me : Standing T C P) (cs : List (ℕ × Held T C P)) → me ≡ (both_halves v w, cs) → Allows StandsFor slots id me 0 (λ x. x) (compares me)
    joined_looks slots id me cs e = subst (λ (m : Standing T C P). Allows StandsFor slots id m 0 (λ x. x) (compares m)) (λ i. ((sym (ap (λ (m : Standing T C P). m.0) e ∙ both_is)) i, sym (ap (λ (m : Standing T C P). m.1) e) i)) (joined_fits slots id u cs (producer.Acted offer got departed.No) (consumer.Acted demand got' d))

  -- A husk and a key of one home exclude each other.
  husk_beside_key : (id other u n : ℕ) (offer : Offer (Try T) P) (demand : Demand C) → Joins StandsFor id (view.Husk u offer demand) other (view.Key n) view.Clash view.Spent
  husk_beside_key id other u n offer demand s holds at apart there =
      let over = (husk_ends id u offer demand s holds at).0 in
      let key = (key_begins other n s holds (sym (set_else s.views id other view.Clash apart) ∙ there)).0 in
      let e = sym over.words ∙ key.words in cc

  -- No seat has the view of two seats that exclude each other.
  never : (slots id : ℕ) (cs : List (ℕ × Held T C P)) → Allows StandsFor slots id (view.Clash, cs) 0 (λ n. n) (λ _ _. ⊥)
  never slots id cs s (inl b) long at small = let r = of_unbegun s id _ at (λ n past. past) b in let e = r.1 in cc
  never slots id cs s (inr (inl b)) long at small = absurd (⊎_elim
      (λ (r : (id ≡ b.producer) × (view.Clash ≡ view.Producer b.number b.p b.learned)). let e = r.1 in cc)
      (λ (r : (id ≡ b.consumer) × (view.Clash ≡ view.Consumer b.number b.c)). let e = r.1 in cc)
      (of_begun s id _ at (λ n past. past) b))
  never slots id cs s (inr (inr (inl b))) long at small = let r = of_over s id _ at (λ n past. past) b in let e = r.1 in cc
  never slots id cs s (inr (inr (inr (inl b)))) long at small = let r = of_reopening s id _ at (λ n past. past) b in let e = r.1 in cc
  never slots id cs s (inr (inr (inr (inr b)))) long at small = let r = of_joined s id _ at (λ n past. past) b in let e = r.1 in cc

  pub never_looks : (slots id : ℕ) (me : Standing T C P) (cs : List (ℕ × Held T C P)) → me ≡ (view.Clash, cs) → Allows StandsFor slots id me 0 (λ x. x) (λ _ _. ⊥)
  never_looks slots id me cs e = subst (λ (m : Standing T C P). Allows StandsFor slots id m 0 (λ x. x) (λ _ _. ⊥)) (sym e) (never slots id cs)

  pub clash_joins : (id other u n : ℕ) (offer : Offer (Try T) P) (demand : Demand C) (v w : View T C P) → v ≡ view.Husk u offer demand → w ≡ view.Key n → Joins StandsFor id v other w view.Clash view.Spent
  clash_joins id other u n offer demand v w is_v is_w = subst (λ (z : View T C P × View T C P). Joins StandsFor id z.0 other z.1 view.Clash view.Spent) (λ i. (sym is_v i, sym is_w i)) (husk_beside_key id other u n offer demand)

  -- A half that hasn't left excludes a key of its home.
  half_beside_key : (id other n : ℕ) (v : View T C P) → IsLive v → ((m : ℕ) → v ≡ view.Key m → ⊥) → Joins StandsFor id v other (view.Key n) view.Clash view.Spent
  half_beside_key id other n v live no_key s holds at apart there =
      let key = key_begins other n s holds (sym (set_else s.views id other view.Clash apart) ∙ there) in
      let b = key.0 in
      absurd (dite (ℕ_discrete id b.seat)
      (λ e. no_key b.number (one_view s.views id b.seat v (view.Key b.number) at b.at e))
      (λ ne. live b.number (b.others id v ne at)))

  pub producer_beside_key : (id other u n : ℕ) (learned : Learned) (offer : Offer (Try T) P) (got : Demand C) (v w : View T C P) → v ≡ view.Producer u (producer.Acted offer got departed.No) learned → w ≡ view.Key n → Joins StandsFor id v other w view.Clash view.Spent
  producer_beside_key id other u n learned offer got v w is_v is_w = subst (λ (z : View T C P × View T C P). Joins StandsFor id z.0 other z.1 view.Clash view.Spent) (λ i. (sym is_v i, sym is_w i))
      (half_beside_key id other n (view.Producer u (producer.Acted offer got departed.No) learned) (λ m past. let e = past.1 in cc) (λ m e. cc))

  consumer_half : (u : ℕ) (demand : Demand C) (got : Offer (Try T) P) → IsLive (consumer_acted {T = T} {C = C} {P = P} u demand got).0
  consumer_half u demanded.Nothing got m past = let e = past.1 in cc
  consumer_half u (demanded.Callback c) got m past = let e = past.1 in cc

  consumer_no_key : (u : ℕ) (demand : Demand C) (got : Offer (Try T) P) (m : ℕ) → (consumer_acted {T = T} {C = C} {P = P} u demand got).0 ≡ view.Key m → ⊥
  consumer_no_key u demanded.Nothing got m e = cc
  consumer_no_key u (demanded.Callback c) got m e = cc

  pub consumer_beside_key : (id other u n : ℕ) (demand : Demand C) (got : Offer (Try T) P) (v w : View T C P) → v ≡ (consumer_acted {T = T} {C = C} {P = P} u demand got).0 → w ≡ view.Key n → Joins StandsFor id v other w view.Clash view.Spent
  consumer_beside_key id other u n demand got v w is_v is_w = subst (λ (z : View T C P × View T C P). Joins StandsFor id z.0 other z.1 view.Clash view.Spent) (λ i. (sym is_v i, sym is_w i))
      (half_beside_key id other n (consumer_acted {T = T} {C = C} {P = P} u demand got).0 (consumer_half u demand got) (consumer_no_key u demand got))

  -- Two seats can't both have been the first to leave one use.
  pub firsts_exclude : (id other : ℕ) (h k : Half) (v w : View T C P) → IsFirstLeave h v → IsFirstLeave k w → use_of v ≡ use_of w → Joins StandsFor id v other w view.Clash view.Spent
  firsts_exclude id other h k v w first_v first_w one_use s holds at apart there =
      let was : get_elem? s.views other ≡ maybe.some w = sym (set_else s.views id other view.Clash apart) ∙ there in
      let of_v : IsFirstOf (use_of w) v = subst (λ n. IsFirstOf n v) one_use (first_of_use h v first_v) in
      absurd (apart (sym (once_of s holds (use_of w) id other v w at was of_v (first_of_use k w first_w))))
