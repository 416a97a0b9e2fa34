-- Before anybody has begun, and the first step, by which a key becomes two halves.
use Rattle.std.proofs.Common.{◌≡◌, ◌≢◌, ℕ, zero, suc, ◌<◌, inl, inr, ⊎_elim, List, [], ◌∷◌, ◌++◌, length, refl, sym, ap, ◌∙◌, subst, None, arith, length-set}
use Rattle.std.specs.Prelude.{slice_set, replicate}
use mathlib.Core.Option as maybe
use mathlib.Core.Option.{some-injective, some-ne-none}
use lib.ListN.{get_elem?}
use Rattle.atomic_table.specs.Table.{Splits, opening}
use Rattle.atomic_table.proofs.Lists.{set_here, set_else, at_longer, at_last}
use Rattle.core_word.specs.declared.view.ProducerPhase.TheVariants as producer
use Rattle.core_word.specs.declared.view.ConsumerPhase.TheVariants as consumer
use Rattle.core_word.specs.declared.view.View.{View}
use Rattle.core_word.specs.declared.view.View.TheVariants as view
use Rattle.core_word.specs.Rule.{TableState, IsPast, IsFirstOf, Unbegun, StandsFor}
use Rattle.core_word.specs.Plays.{Standing, key_at, producer_ready, consumer_ready, begin_producer, begin_consumer}
use Rattle.core_word.specs.Views.{unlooked}
use Rattle.core_word.proofs.Firsts.{not_first, before_last, once_plain, once_more}
use Rattle.core_word.proofs.Owing.{within, of_unbegun, of_begun, of_over, of_reopening, of_joined}

module _ {T C P : Type 0} where
  pub opens : StandsFor (opening (0 ∷ 2 ∷ []) (replicate 3 None) (key_at {T = T} {C = C} {P = P} 0).0)
  opens = inl record {
    seat = 0;
    number = 0;
    at = refl;
    others = other;
    words = refl;
    homes = refl;
    once = λ n j k v w at_j at_k first also. absurd (none n j v at_j first);
  } where
    none : (n j : ℕ) (v : View T C P) → get_elem? (view.Key 0 ∷ []) j ≡ maybe.some v → IsFirstOf n v → ⊥
    none n zero v e first = subst (λ x. IsFirstOf n x) (sym (some-injective (view.Key 0) v e)) first
    none n (suc j) v e first = some-ne-none v (sym e)

    other : (k : ℕ) (v : View T C P) → k ≢ 0 → get_elem? (view.Key 0 ∷ []) k ≡ maybe.some v → IsPast 0 v
    other zero v ne e = absurd (ne refl)
    other (suc k) v ne e = absurd (some-ne-none v (sym e))

  pub key_begins : (id u : ℕ) (s : TableState T C P) → StandsFor s → get_elem? s.views id ≡ maybe.some (view.Key u) → (b : Unbegun s) × (id ≡ b.seat) × (u ≡ b.number)
  key_begins id u s (inl b) at = let r = of_unbegun s id _ at (λ n past. past) b in let same = r.1 in let number : u ≡ b.number = cc in (b, r.0, number)
  key_begins id u s (inr (inl b)) at = ⊎_elim
      (λ (r : (id ≡ b.producer) × (view.Key u ≡ view.Producer b.number b.p b.learned)). let e = r.1 in cc)
      (λ (r : (id ≡ b.consumer) × (view.Key u ≡ view.Consumer b.number b.c)). let e = r.1 in cc)
      (of_begun s id _ at (λ n past. past) b)
  key_begins id u s (inr (inr (inl b))) at = let r = of_over s id _ at (λ n past. past) b in let e = r.1 in cc
  key_begins id u s (inr (inr (inr (inl b)))) at = let r = of_reopening s id _ at (λ n past. past) b in let e = r.1 in cc
  key_begins id u s (inr (inr (inr (inr b)))) at = let r = of_joined s id _ at (λ n past. past) b in let e = r.1 in cc

  begins_two : (id u : ℕ) → Splits StandsFor id (key_at {T = T} {C = C} {P = P} u).0 (producer_ready {T = T} {C = C} {P = P} u unlooked).0 (consumer_ready {T = T} {C = C} {P = P} u).0
  begins_two id u s holds at =
      let r = key_begins id u s holds at in
      let b = r.0 in
      let inside : id < length s.views = within s.views id _ at in
      let p : View T C P = view.Producer u producer.Ready unlooked in
      let c : View T C P = view.Consumer u consumer.Ready in
      let first = slice_set s.views id p in
      let wide : length first ≡ length s.views = length-set s.views id p in
      let apart : id ≢ length s.views = λ e. absurd (omega arith) in
      inr (inl record {
        producer = id;
        consumer = length s.views;
        apart = apart;
        number = u;
        p = producer.Ready;
        learned = unlooked;
        c = consumer.Ready;
        at_p = at_longer first (c ∷ []) id p (set_here s.views id p inside);
        at_c = at_last first c (length s.views) wide;
        others = λ k v np nc e. subst (λ n. IsPast n v) (sym r.2) (b.others k v (λ x. np (x ∙ sym r.1))
            (sym (set_else s.views id k p np) ∙ before_last first c k v (λ x. nc (x ∙ wide)) e));
        words = b.words;
        homes = b.homes;
        fit = (tt, tt);
        sees = tt;
        once = once_more first c (once_plain s.views id p inside b.once (λ n h. not_first h.1)) (λ n h. not_first h.1);
      })

  pub begins : (id u : ℕ) (me : Standing T C P) → me ≡ key_at u → Splits StandsFor id me.0 (begin_producer me.0) (begin_consumer me.0)
  begins id u me e = subst (λ (m : Standing T C P). Splits StandsFor id m.0 (begin_producer m.0) (begin_consumer m.0)) (sym e) (begins_two id u)
