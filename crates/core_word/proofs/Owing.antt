-- What a half owes for a step: for any other half that fits it, the words, the slots and the two halves after the step fit again.
use Rattle.std.proofs.Common.{◌≡◌, ◌≢◌, ℕ, zero, suc, ◌<◌, inl, inr, ⊎_elim, ◌⊎◌, List, [], ◌∷◌, length, refl, sym, ap, ◌∙◌, subst, arith}
use Rattle.std.specs.Prelude.{Bool, slice_set, slice_index}
use mathlib.Core.Option as maybe
use mathlib.Core.Option.{some-injective, some-ne-none}
use mathlib.Core.Logic.{dite}
use native.Mathlib.Decide.{ℕ_discrete}
use lib.ListN.{get_elem?}
use Rattle.core_state.specs.Table.{code_of}
use Rattle.core_state.specs.Schedule.{state_from}
use Rattle.atomic_table.specs.Table.{rest, turned, Act, keeps, Valid, Allows, homes_after, carried_after}
use Rattle.atomic_table.proofs.Lists.{set_here, set_else}
use Rattle.core_word.specs.declared.view.Sight.{Sight}
use Rattle.core_word.specs.declared.view.Learned.{Learned}
use Rattle.core_word.specs.declared.view.Sight.TheVariants as seen
use Rattle.core_word.specs.declared.view.Departure.{Departure}
use Rattle.core_word.specs.declared.view.Departure.TheVariants as departed
use Rattle.core_word.specs.declared.view.ProducerPhase.{ProducerPhase}
use Rattle.core_word.specs.declared.view.ProducerPhase.TheVariants as producer
use Rattle.core_word.specs.declared.view.ConsumerPhase.{ConsumerPhase}
use Rattle.core_word.specs.declared.view.ConsumerPhase.TheVariants as consumer
use Rattle.core_word.specs.declared.view.View.{View}
use Rattle.core_word.specs.declared.view.View.TheVariants as view
use Rattle.core_word.specs.Views.{use_of, learned_of, producer_left, consumer_left, Knows}
use Rattle.core_word.specs.Rule.{Held, Home, TableState, words_of, homes_of, IsSet, Fit, Waits, SightFits, IsPast, IsFirstOf, OneFirst, Unbegun, Begun, Over, Reopening, Joined, StandsFor}
use Rattle.fan_base.specs.declared.outcome.Try.{Try}
use Rattle.core_state.specs.declared.schedule.Offer.{Offer}
use Rattle.core_state.specs.declared.schedule.Offer.TheVariants as offered
use Rattle.core_state.specs.declared.schedule.Demand.{Demand}
use Rattle.core_state.specs.declared.schedule.Demand.TheVariants as demanded
use Rattle.atomic_table.specs.Seated.{TableId}
use Rattle.atomic_table.specs.declared.shared.Seat.{Seat}
use Rattle.core_word.specs.Plays.{Standing, Sits, producer_acted, consumer_acted, leaving, IsLast}
use Rattle.core_word.proofs.Firsts.{not_first, one_view, once_plain, once_produced, once_consumed}

pub within : {A : Type 0} (l : List A) (i : ℕ) (a : A) → get_elem? l i ≡ maybe.some a → i < length l
within [] i a e = absurd (some-ne-none a (sym e))
within (x ∷ xs) zero a e = omega arith
within (x ∷ xs) (suc i) a e = let r = within xs i a e in omega arith

pub head_rest : {A : Type 0} (l : List (ℕ × A)) (x : ℕ × A) (xs : List (ℕ × A)) → l ≡ x ∷ xs → l ≡ x ∷ rest l
head_rest l x xs e = e ∙ ap (λ ys. x ∷ ys) (sym (ap rest e))

-- after one slot was emptied and put behind, the second is in front
pub second : {A : Type 0} (i j : ℕ) (n a b : A) (l₀ l₁ l₂ : List (ℕ × A)) → l₀ ≡ (i, a) ∷ (j, b) ∷ [] → l₁ ≡ (i, n) ∷ rest l₀ → l₂ ≡ turned l₁ → l₂ ≡ (j, b) ∷ rest l₂
second {A = A} i j n a b l₀ l₁ l₂ p₀ p₁ p₂ =
    let e₁ : l₁ ≡ (i, n) ∷ (j, b) ∷ [] = p₁ ∙ ap (λ (l : List (ℕ × A)). (i, n) ∷ rest l) p₀ in
    let e₂ : l₂ ≡ (j, b) ∷ (i, n) ∷ [] = p₂ ∙ ap turned e₁ in
    head_rest l₂ (j, b) ((i, n) ∷ []) e₂

-- after two slots were emptied and put behind, the third is in front
pub third : {A : Type 0} (n a b : A) (l₀ l₁ l₂ l₃ l₄ : List (ℕ × A)) → l₀ ≡ (2, a) ∷ (1, n) ∷ (0, b) ∷ [] → l₁ ≡ (2, n) ∷ rest l₀ → l₂ ≡ turned l₁ → l₃ ≡ (1, n) ∷ rest l₂ → l₄ ≡ turned l₃ → l₄ ≡ (0, b) ∷ rest l₄
third {A = A} n a b l₀ l₁ l₂ l₃ l₄ p₀ p₁ p₂ p₃ p₄ =
    let e₁ : l₁ ≡ (2, n) ∷ (1, n) ∷ (0, b) ∷ [] = p₁ ∙ ap (λ (l : List (ℕ × A)). (2, n) ∷ rest l) p₀ in
    let e₂ : l₂ ≡ (1, n) ∷ (0, b) ∷ (2, n) ∷ [] = p₂ ∙ ap turned e₁ in
    let e₃ : l₃ ≡ (1, n) ∷ (0, b) ∷ (2, n) ∷ [] = p₃ ∙ ap (λ (l : List (ℕ × A)). (1, n) ∷ rest l) e₂ in
    let e₄ : l₄ ≡ (0, b) ∷ (2, n) ∷ (1, n) ∷ [] = p₄ ∙ ap turned e₃ in
    head_rest l₄ (0, b) ((2, n) ∷ (1, n) ∷ []) e₄

module _ {T C P : Type 0} where
  -- where a seat stands that has put something into its one slot
  pub filled : (me before : Standing T C P) (v : View T C P) (k : ℕ) (held x : Held T C P) → me ≡ (before.0, (k, x) ∷ rest before.1) → before ≡ (v, (k, held) ∷ []) → me ≡ (v, (k, x) ∷ [])
  filled me before v k held x put was = put ∙ ap (λ (m : Standing T C P). (m.0, (k, x) ∷ rest m.1)) was

  past_later : (u : ℕ) (v : View T C P) → IsPast u v → IsPast (suc u) v
  past_later u (view.Key n) past = absurd past
  past_later u (view.Producer n p learned) past = let lt = past.0 in (omega arith, past.1)
  past_later u (view.Consumer n c) past = let lt = past.0 in (omega arith, past.1)
  past_later u (view.Husk n o k) past = absurd past
  past_later u (view.Reopening n) past = absurd past
  past_later u (view.Joined n p c) past = absurd past
  past_later u view.Spent past = tt
  past_later u view.Clash past = absurd past

  first_past : (u : ℕ) (v : View T C P) → IsFirstOf u v → IsPast (suc u) v
  first_past u (view.Key n) left = absurd left
  first_past u (view.Producer n p learned) left = let same = left.0 in (omega arith, left.1)
  first_past u (view.Consumer n c) left = let same = left.0 in (omega arith, left.1)
  first_past u (view.Husk n o k) left = absurd left
  first_past u (view.Reopening n) left = absurd left
  first_past u (view.Joined n p c) left = absurd left
  first_past u view.Spent left = absurd left
  first_past u view.Clash left = absurd left

  -- once a use is over, every other half was the first to leave its use
  pub over_others : (s : TableState T C P) (b : Over s) (k : ℕ) (v : View T C P) → k ≢ b.last → get_elem? s.views k ≡ maybe.some v → IsPast (suc b.number) v
  over_others s b k v ne at = dite (ℕ_discrete k b.first)
      (λ e. subst (λ w. IsPast (suc b.number) w) (sym (one_view s.views k b.first v b.v at b.at_first e)) (first_past b.number b.v b.left))
      (λ nf. past_later b.number v (b.others k v ne nf at))

  -- a view of a half or a key that still has a part in its home
  abbrev pub IsLive : View T C P → Type 0
  IsLive v = (n : ℕ) → IsPast n v → ⊥

  -- a seat with such a view, beside which all others are past
  only_one : (vs : List (View T C P)) (seat n : ℕ) (w : View T C P) → get_elem? vs seat ≡ maybe.some w
      → ((k : ℕ) (v : View T C P) → k ≢ seat → get_elem? vs k ≡ maybe.some v → IsPast n v)
      → (id : ℕ) (v : View T C P) → get_elem? vs id ≡ maybe.some v → IsLive v → (id ≡ seat) × (v ≡ w)
  only_one vs seat n w at others id v here live = dite (ℕ_discrete id seat)
      (λ e. (e, one_view vs id seat v w here at e))
      (λ ne. absurd (live n (others id v ne here)))

  module _ (s : TableState T C P) (id : ℕ) (v : View T C P) (here : get_elem? s.views id ≡ maybe.some v) (live : IsLive v) where
    pub of_unbegun : (b : Unbegun s) → (id ≡ b.seat) × (v ≡ view.Key b.number)
    of_unbegun b = only_one s.views b.seat b.number _ b.at b.others id v here live

    pub of_over : (b : Over s) → (id ≡ b.last) × (v ≡ view.Husk b.number b.offer b.demand)
    of_over b = only_one s.views b.last (suc b.number) _ b.at_last (over_others s b) id v here live

    pub of_reopening : (b : Reopening s) → (id ≡ b.seat) × (v ≡ view.Reopening b.number)
    of_reopening b = only_one s.views b.seat (suc b.number) _ b.at b.others id v here live

    pub of_joined : (b : Joined s) → (id ≡ b.seat) × (v ≡ view.Joined b.number b.p b.c)
    of_joined b = only_one s.views b.seat b.number _ b.at b.others id v here live

    pub of_begun : (b : Begun s) → ((id ≡ b.producer) × (v ≡ view.Producer b.number b.p b.learned)) ⊎ ((id ≡ b.consumer) × (v ≡ view.Consumer b.number b.c))
    of_begun b = dite (ℕ_discrete id b.producer)
        (λ e. inl (e, one_view s.views id b.producer _ _ here b.at_p e))
        (λ np. dite (ℕ_discrete id b.consumer)
        (λ e. inr (e, one_view s.views id b.consumer _ _ here b.at_c e))
        (λ nc. absurd (live b.number (b.others id v np nc here))))

  -- what a producer that hasn't left first stands beside: the consumer of its use, and past views
  pub record BesideProducer (s : TableState T C P) (id u : ℕ) (p : ProducerPhase T C P) (learned : Learned) : Type 0 where
    pub consumer : ℕ
    pub c : ConsumerPhase T C P
    pub apart : id ≢ consumer
    pub at_c : get_elem? s.views consumer ≡ maybe.some (view.Consumer u c)
    pub others : (k : ℕ) (v : View T C P) → k ≢ id → k ≢ consumer → get_elem? s.views k ≡ maybe.some v → IsPast u v
    pub words : s.words ≡ words_of p c
    pub homes : s.homes ≡ homes_of p c
    pub fit : Fit p c
    pub sees : SightFits learned.sight c
    pub once : OneFirst s.views

  -- the same of a consumer
  pub record BesideConsumer (s : TableState T C P) (id u : ℕ) (c : ConsumerPhase T C P) : Type 0 where
    pub producer : ℕ
    pub p : ProducerPhase T C P
    pub learned : Learned
    pub apart : producer ≢ id
    pub at_p : get_elem? s.views producer ≡ maybe.some (view.Producer u p learned)
    pub others : (k : ℕ) (v : View T C P) → k ≢ producer → k ≢ id → get_elem? s.views k ≡ maybe.some v → IsPast u v
    pub words : s.words ≡ words_of p c
    pub homes : s.homes ≡ homes_of p c
    pub fit : Fit p c
    pub sees : SightFits learned.sight c
    pub once : OneFirst s.views

  module _ (s : TableState T C P) (id u : ℕ) where
    module _ (p : ProducerPhase T C P) (learned : Learned) (stays : producer_left p ≢ departed.First) (here : get_elem? s.views id ≡ maybe.some (view.Producer u p learned)) where
      live_producer : IsLive (view.Producer u p learned)
      live_producer n past = stays past.1

      of_producer : (b : Begun s) → (id ≡ b.producer) × (view.Producer u p learned ≡ view.Producer b.number b.p b.learned) → BesideProducer s id u p learned
      of_producer b r =
          let same = r.1 in
          let number : u ≡ b.number = cc in
          let phase : p ≡ b.p = cc in
          let looked : learned ≡ b.learned = cc in record {
            consumer = b.consumer;
            c = b.c;
            apart = λ e. b.apart (sym r.0 ∙ e);
            at_c = b.at_c ∙ ap (λ n. maybe.some (view.Consumer n b.c)) (sym number);
            others = λ k v ne nc e. subst (λ n. IsPast n v) (sym number) (b.others k v (λ x. ne (x ∙ sym r.0)) nc e);
            words = b.words ∙ ap (λ q. words_of q b.c) (sym phase);
            homes = b.homes ∙ ap (λ q. homes_of q b.c) (sym phase);
            fit = subst (λ q. Fit q b.c) (sym phase) b.fit;
            sees = subst (λ (y : Learned). SightFits y.sight b.c) (sym looked) b.sees;
            once = b.once;
          }

      pub beside_producer : StandsFor s → BesideProducer s id u p learned
      beside_producer (inl b) = let r = of_unbegun s id _ here live_producer b in let e = r.1 in cc
      beside_producer (inr (inl b)) = ⊎_elim (of_producer b) (λ (r : (id ≡ b.consumer) × (view.Producer u p learned ≡ view.Consumer b.number b.c)). let e = r.1 in cc) (of_begun s id _ here live_producer b)
      beside_producer (inr (inr (inl b))) = let r = of_over s id _ here live_producer b in let e = r.1 in cc
      beside_producer (inr (inr (inr (inl b)))) = let r = of_reopening s id _ here live_producer b in let e = r.1 in cc
      beside_producer (inr (inr (inr (inr b)))) = let r = of_joined s id _ here live_producer b in let e = r.1 in cc

    module _ (c : ConsumerPhase T C P) (stays : consumer_left c ≢ departed.First) (here : get_elem? s.views id ≡ maybe.some (view.Consumer u c)) where
      live_consumer : IsLive (view.Consumer u c)
      live_consumer n past = stays past.1

      of_consumer : (b : Begun s) → (id ≡ b.consumer) × (view.Consumer u c ≡ view.Consumer b.number b.c) → BesideConsumer s id u c
      of_consumer b r =
          let same = r.1 in
          let number : u ≡ b.number = cc in
          let phase : c ≡ b.c = cc in record {
            producer = b.producer;
            p = b.p;
            learned = b.learned;
            apart = λ e. b.apart (e ∙ r.0);
            at_p = b.at_p ∙ ap (λ n. maybe.some (view.Producer n b.p b.learned)) (sym number);
            others = λ k v np ne e. subst (λ n. IsPast n v) (sym number) (b.others k v np (λ x. ne (x ∙ sym r.0)) e);
            words = b.words ∙ ap (λ q. words_of b.p q) (sym phase);
            homes = b.homes ∙ ap (λ q. homes_of b.p q) (sym phase);
            fit = subst (λ q. Fit b.p q) (sym phase) b.fit;
            sees = subst (λ q. SightFits b.learned.sight q) (sym phase) b.sees;
            once = b.once;
          }

      pub beside_consumer : StandsFor s → BesideConsumer s id u c
      beside_consumer (inl b) = let r = of_unbegun s id _ here live_consumer b in let e = r.1 in cc
      beside_consumer (inr (inl b)) = ⊎_elim (λ (r : (id ≡ b.producer) × (view.Consumer u c ≡ view.Producer b.number b.p b.learned)). let e = r.1 in cc) (of_consumer b) (of_begun s id _ here live_consumer b)
      beside_consumer (inr (inr (inl b))) = let r = of_over s id _ here live_consumer b in let e = r.1 in cc
      beside_consumer (inr (inr (inr (inl b)))) = let r = of_reopening s id _ here live_consumer b in let e = r.1 in cc
      beside_consumer (inr (inr (inr (inr b)))) = let r = of_joined s id _ here live_consumer b in let e = r.1 in cc

  -- a step tells besides what the rule says of every state in which it may be made
  pub allows_also : (slots id : ℕ) (me : Standing T C P) (i : ℕ) (f : ℕ → ℕ) (then : ℕ → Standing T C P → Type 0) (more : ℕ → Type 0)
      → ((s : TableState T C P) → StandsFor s → get_elem? s.views id ≡ maybe.some me.0 → more (slice_index s.words i))
      → Allows StandsFor slots id me i f then → Allows StandsFor slots id me i f (λ found after. then found after × more found)
  allows_also slots id me i f then more also allowed s holds long at small =
      let r = allowed s holds long at small in (r.0, r.1, r.2, r.3, (r.4, also s holds at))

  module _ (id : ℕ) (cs : List (ℕ × Held T C P)) (i : ℕ) (f : ℕ → ℕ) (then : ℕ → Standing T C P → Type 0) where
    -- a step of a table with these words, slots and views
    abbrev pub Steps : List ℕ → List (Home T C P) → List (View T C P) → Type 0
    Steps ws hs vs = (w : View T C P) × (a : Act (Held T C P)) × Valid hs cs a
        × StandsFor record { words = slice_set ws i (f (slice_index ws i)); homes = homes_after hs cs a; views = slice_set vs id w }
        × then (slice_index ws i) (w, carried_after cs a)

    -- the step by which a last leaver reads the state and takes all slots, beside the first leaver's view
    abbrev pub ReadsAll : ℕ → View T C P → List ℕ → List (Home T C P) → Type 0
    ReadsAll u v ws hs = (offer : Offer (Try T) P) × (demand : Demand C) × (a : Act (Held T C P)) × Valid hs cs a
        × (slice_set ws i (f (slice_index ws i)) ≡ code_of (state_from offer demand) ∷ 0 ∷ [])
        × (homes_after hs cs a ≡ maybe.none ∷ maybe.none ∷ maybe.none ∷ [])
        × IsSet offer × Knows v offer demand
        × then (slice_index ws i) (view.Husk u offer demand, carried_after cs a)

    pub placed : (ws : List ℕ) (hs : List (Home T C P)) (vs : List (View T C P)) (ws' : List ℕ) (hs' : List (Home T C P)) → ws ≡ ws' → hs ≡ hs' → Steps ws' hs' vs → Steps ws hs vs
    placed ws hs vs ws' hs' e f g = subst (λ x. Steps x hs vs) (sym e) (subst (λ y. Steps ws' y vs) (sym f) g)

  module _ (id : ℕ) (u : ℕ) (learned : Learned) (cs : List (ℕ × Held T C P)) (i : ℕ) (f : ℕ → ℕ) (then : ℕ → Standing T C P → Type 0) where
    -- what it gives beside this consumer
    abbrev pub ProducerRow : ProducerPhase T C P → ConsumerPhase T C P → Type 0
    ProducerRow p c = (q : ProducerPhase T C P) × (a : Act (Held T C P)) × Valid (homes_of p c) cs a
        × (slice_set (words_of p c) i (f (slice_index (words_of p c) i)) ≡ words_of q c)
        × (homes_after (homes_of p c) cs a ≡ homes_of q c)
        × Fit q c
        × then (slice_index (words_of p c) i) (view.Producer u q learned, carried_after cs a)

    abbrev pub ProducerOwes : ProducerPhase T C P → Type 0
    ProducerOwes p = (c : ConsumerPhase T C P) → Fit p c → slice_index (words_of p c) i < 18446744073709551616 → ProducerRow p c

    -- a producer's step keeps what it has learned of its consumer
    module _ (p : ProducerPhase T C P) (stays : producer_left p ≢ departed.First) where
      pub producer_steps : (slots : ℕ) → ProducerOwes p → Allows StandsFor slots id (view.Producer u p learned, cs) i f then
      producer_steps slots owes s holds long at small =
          let b = beside_producer s id u p learned stays at holds in
          let c = b.c in
          let low : slice_index (words_of p c) i < 18446744073709551616 = subst (λ ws. slice_index ws i < 18446744073709551616) b.words small in
          let r = owes c b.fit low in
          let w : View T C P = view.Producer u r.0 learned in
          let away : b.consumer ≢ id = λ e. b.apart (sym e) in
          placed id cs i f then s.words s.homes s.views (words_of p c) (homes_of p c) b.words b.homes (
            w,
            r.1,
            r.2,
            inr (inl record {
              producer = id;
              consumer = b.consumer;
              apart = b.apart;
              number = u;
              p = r.0;
              learned = learned;
              c = c;
              at_p = set_here s.views id w (within s.views id _ at);
              at_c = set_else s.views id b.consumer w away ∙ b.at_c;
              others = λ k v ne nc e. b.others k v ne nc (sym (set_else s.views id k w ne) ∙ e);
              words = r.3;
              homes = r.4;
              fit = r.5;
              sees = b.sees;
              once = once_produced s.views id b.consumer u r.0 learned c (within s.views id _ at) b.once b.at_c b.others r.5;
            }),
            r.6,
          )

  -- a producer that hasn't acted looks at a word, and learns something of its consumer
  pub producer_looks : (id u i : ℕ) (learned : Learned) (then : ℕ → Standing T C P → Type 0)
      → ((c : ConsumerPhase T C P) → Fit producer.Ready c → SightFits learned.sight c → (new : Learned) × SightFits new.sight c × then (slice_index (words_of producer.Ready c) i) (view.Producer u producer.Ready new, []))
      → ((c : ConsumerPhase T C P) → slice_set (words_of producer.Ready c) i (slice_index (words_of producer.Ready c) i) ≡ words_of producer.Ready c)
      → (slots : ℕ) → Allows StandsFor slots id (view.Producer u producer.Ready learned, []) i (λ n. n) then
  producer_looks id u i learned then learns same slots s holds long at small =
      let b = beside_producer s id u producer.Ready learned (λ n. cc) at holds in
      let c = b.c in
      let r = learns c b.fit b.sees in
      let w : View T C P = view.Producer u producer.Ready r.0 in
      let away : b.consumer ≢ id = λ e. b.apart (sym e) in
      placed id [] i (λ n. n) then s.words s.homes s.views (words_of producer.Ready c) (homes_of producer.Ready c) b.words b.homes (
        w,
        keeps,
        tt,
        inr (inl record {
          producer = id;
          consumer = b.consumer;
          apart = b.apart;
          number = u;
          p = producer.Ready;
          learned = r.0;
          c = c;
          at_p = set_here s.views id w (within s.views id _ at);
          at_c = set_else s.views id b.consumer w away ∙ b.at_c;
          others = λ k v ne nc e. b.others k v ne nc (sym (set_else s.views id k w ne) ∙ e);
          words = same c;
          homes = refl;
          fit = b.fit;
          sees = r.1;
          once = once_plain s.views id w (within s.views id _ at) b.once (λ n first. not_first first.1);
        }),
        r.2,
      )

  -- what a producer has learned stays true where the consumer had set no callback
  pub unset_sight : (c q : ConsumerPhase T C P) → ((inline : Bool) → Waits inline c → ⊥) → (sight : Sight) → SightFits sight c → SightFits sight q
  unset_sight c q quiet seen.Unseen sees = tt
  unset_sight c q quiet seen.NoCallback sees = tt
  unset_sight c q quiet seen.Callback sees = absurd (quiet sees.0 sees.1)
  unset_sight c q quiet seen.CallbackLeft sees = absurd (quiet sees.0.0 sees.0.1)

  -- and where the consumer leaves
  pub left_sight : (demand : Demand C) (got : Offer (Try T) P) (left : Departure) (sight : Sight) → SightFits sight (consumer.Acted demand got departed.No) → SightFits sight (consumer.Acted demand got left)
  left_sight demand got left seen.Unseen sees = tt
  left_sight demand got left seen.NoCallback sees = tt
  left_sight demanded.Nothing got left seen.Callback sees = absurd sees.1
  left_sight (demanded.Callback c) got left seen.Callback sees = sees
  left_sight demand got left seen.CallbackLeft sees = let clash = sees.1 in cc

  module _ (id : ℕ) (u : ℕ) (cs : List (ℕ × Held T C P)) (i : ℕ) (f : ℕ → ℕ) (then : ℕ → Standing T C P → Type 0) where
    abbrev pub ConsumerOwes : ConsumerPhase T C P → Type 0
    ConsumerOwes c = (p : ProducerPhase T C P) → Fit p c → slice_index (words_of p c) i < 18446744073709551616
        → (q : ConsumerPhase T C P) × (a : Act (Held T C P)) × Valid (homes_of p c) cs a
        × (slice_set (words_of p c) i (f (slice_index (words_of p c) i)) ≡ words_of p q)
        × (homes_after (homes_of p c) cs a ≡ homes_of p q)
        × Fit p q
        × ((sight : Sight) → SightFits sight c → SightFits sight q)
        × then (slice_index (words_of p c) i) (view.Consumer u q, carried_after cs a)

    module _ (c : ConsumerPhase T C P) (stays : consumer_left c ≢ departed.First) where
      pub consumer_steps : (slots : ℕ) → ConsumerOwes c → Allows StandsFor slots id (view.Consumer u c, cs) i f then
      consumer_steps slots owes s holds long at small =
          let b = beside_consumer s id u c stays at holds in
          let p = b.p in
          let low : slice_index (words_of p c) i < 18446744073709551616 = subst (λ ws. slice_index ws i < 18446744073709551616) b.words small in
          let r = owes p b.fit low in
          let w : View T C P = view.Consumer u r.0 in
          placed id cs i f then s.words s.homes s.views (words_of p c) (homes_of p c) b.words b.homes (
            w,
            r.1,
            r.2,
            inr (inl record {
              producer = b.producer;
              consumer = id;
              apart = b.apart;
              number = u;
              p = p;
              learned = b.learned;
              c = r.0;
              at_p = set_else s.views id b.producer w b.apart ∙ b.at_p;
              at_c = set_here s.views id w (within s.views id _ at);
              others = λ k v np ne e. b.others k v np ne (sym (set_else s.views id k w ne) ∙ e);
              words = r.3;
              homes = r.4;
              fit = r.5;
              sees = r.6 b.learned.sight b.sees;
              once = once_consumed s.views id b.producer u r.0 b.learned p (within s.views id _ at) b.once b.at_p b.others r.5;
            }),
            r.7,
          )

module _ {T C P : Type 0} where
  -- where a seat stands, by the number of its own view
  pub sits_by_both : (home : TableId) (seat : Seat (Held T C P) (View T C P)) (f : ℕ → Learned → Standing T C P) → ((n : ℕ) (y : Learned) → (use_of (f n y).0 ≡ n) × (learned_of (f n y).0 ≡ y)) → (u : ℕ) (learned : Learned) → Sits home seat (f u learned) → Sits home seat (f (use_of seat.me.0) (learned_of seat.me.0))
  sits_by_both home seat f is u learned h = record {
    of_home = h.of_home;
    stands = h.stands ∙ ((λ i. f (sym (ap (λ (m : Standing T C P). use_of m.0) h.stands ∙ (is u learned).0) i) (sym (ap (λ (m : Standing T C P). learned_of m.0) h.stands ∙ (is u learned).1) i)));
  }

  pub sits_by_view : (home : TableId) (seat : Seat (Held T C P) (View T C P)) (f : ℕ → Standing T C P) → ((n : ℕ) → use_of (f n).0 ≡ n) → (u : ℕ) → Sits home seat (f u) → Sits home seat (f (use_of seat.me.0))
  sits_by_view home seat f is u h = record { of_home = h.of_home; stands = h.stands ∙ ap f (sym (ap (λ (m : Standing T C P). use_of m.0) h.stands ∙ is u)) }

  pub producer_is_last : (before after : Standing T C P) (u : ℕ) (learned : Learned) (offer : Offer (Try T) P) (got : Demand C) → before ≡ producer_acted u learned offer got → after ≡ (leaving departed.Last before.0, []) → (after.1 ≡ []) × IsLast after.0
  producer_is_last before after u learned offer got e f = (
    ap (λ (m : Standing T C P). m.1) f,
    inl (u, learned, offer, got, ap (λ (m : Standing T C P). m.0) f ∙ ap (λ (m : Standing T C P). leaving departed.Last m.0) e),
  )

  pub consumer_is_last : (before after : Standing T C P) (u : ℕ) (demand : Demand C) (got : Offer (Try T) P) → before ≡ consumer_acted u demand got → after ≡ (leaving departed.Last before.0, []) → (after.1 ≡ []) × IsLast after.0
  consumer_is_last before after u demanded.Nothing got e f = (
    ap (λ (m : Standing T C P). m.1) f,
    inr (u, demanded.Nothing, offered.Nothing, ap (λ (m : Standing T C P). m.0) f ∙ ap (λ (m : Standing T C P). leaving departed.Last m.0) e),
  )
  consumer_is_last before after u (demanded.Callback c) got e f = (
    ap (λ (m : Standing T C P). m.1) f,
    inr (u, demanded.Callback c, got, ap (λ (m : Standing T C P). m.0) f ∙ ap (λ (m : Standing T C P). leaving departed.Last m.0) e),
  )
