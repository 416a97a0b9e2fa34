-- What each call keeps of the index.
use Rattle.std.proofs.Common.{◌≡◌, ℕ, ◌+◌, ◌^◌, ◌<◌, ◌⊎◌, inl, inr, Bool, true, false, cond, nat_eq, Option, Some, None, option_map, refl, sym, ap, ◌∙◌, subst, arith, ⊎_elim}
use Rattle.std.proofs.lemmas.Grind.{common_steps}
use Rattle.std.proofs.lemmas.Option.{none-some, same_Some}
use Rattle.tick_wheel.specs.Held.{Held}
use Rattle.tick_wheel.specs.declared.timer.Timer.{Timer}
use Rattle.tick_wheel.specs.Kept.{IsKept}
use Rattle.tick_wheel.specs.Place.{IsAhead}
use Rattle.tick_wheel.specs.Table.{Index, IsUnique, AreApart, AreAhead, Rearranges, held_at, ranked_at, rank_of}
use Rattle.tick_wheel.proofs.Cascading.{held_before}
use Rattle.tick_wheel.proofs.Views.{apart_from_drop}

module _ {A : Type 0} where
  -- what is held without an id was held
  pub was_held : (index index' : Index A) (id : ℕ) → ((q : ℕ) → held_at index' q ≡ cond (nat_eq id q) None (held_at index q))
      → (q : ℕ) (h : Held A) → held_at index' q ≡ Some h → held_at index q ≡ Some h
  was_held index index' id gone q h is = was (nat_eq id q) (held_at index q) (sym (gone q) ∙ is)
    where
      was : (b : Bool) (o : Option (Held A)) → cond b None o ≡ Some h → o ≡ Some h
      was true o e = absurd (none-some h e)
      was false o e = e

  pub gone_ranks : (index index' : Index A) (id : ℕ) → ((q : ℕ) → held_at index' q ≡ cond (nat_eq id q) None (held_at index q))
      → (q : ℕ) → ranked_at index' q ≡ cond (nat_eq id q) None (ranked_at index q)
  gone_ranks index index' id gone q = ap (option_map (rank_of q)) (gone q) ∙ dropped (nat_eq id q) (held_at index q)
    where
      dropped : (b : Bool) (o : Option (Held A)) → option_map (rank_of q) (cond b None o) ≡ cond b None (option_map (rank_of q) o)
      dropped true o = refl
      dropped false o = refl

  -- an id's timer leaves
  pub kept_drop : (tick next : ℕ) (index index' : Index A) (id : ℕ) → IsKept tick next index → IsUnique index'
      → ((q : ℕ) → held_at index' q ≡ cond (nat_eq id q) None (held_at index q)) → IsKept tick next index'
  kept_drop tick next index index' id kept unique gone = record {
    now = kept.now;
    last = kept.last;
    apart = apart_from_drop index index' id kept.apart unique (gone_ranks index index' id gone);
    below = λ q h is. kept.below q h (was_held index index' id gone q h is);
    ahead = λ q h is. kept.ahead q h (was_held index index' id gone q h is);
  }

  -- one timer more
  pub kept_link : (tick next : ℕ) (index index' : Index A) (id : ℕ) (h : Held A) → IsKept tick next index → IsUnique index'
      → ((q : ℕ) → held_at index' q ≡ cond (nat_eq id q) (Some h) (held_at index q)) → h.order ≡ next → IsAhead tick h.due h.slot → next + 1 < 2 ^ 64
      → IsKept tick (next + 1) index'
  kept_link tick next index index' id h kept unique updates order ahead more =
      let was : (q : ℕ) (k : Held A) → held_at index' q ≡ Some k → ((id ≡ q) × (h ≡ k)) ⊎ (held_at index q ≡ Some k) = λ q k is. came (nat_eq id q) refl k q (sym (updates q) ∙ is) in
      record {
        now = kept.now;
        last = more;
        apart = record {
          unique = unique;
          once = λ a b x y is also same.
              ⊎_elim
              (λ p. ⊎_elim (λ q. sym p.0 ∙ q.0)
              (λ q. absurd (omega (arith, kept.below b y q, ap (λ (k : Held A). k.order) p.1, order, same)))
              (was b y also))
              (λ p. ⊎_elim (λ q. absurd (omega (arith, kept.below a x p, ap (λ (k : Held A). k.order) q.1, order, same)))
              (λ q. kept.apart.once a b x y p q same)
              (was b y also))
              (was a x is);
        };
        below = λ q k is. ⊎_elim (λ p. omega (arith, ap (λ (m : Held A). m.order) p.1, order)) (λ p. omega (arith, kept.below q k p)) (was q k is);
        ahead = λ q k is. ⊎_elim (λ p. subst (λ (m : Held A). IsAhead tick m.due m.slot) p.1 ahead) (λ p. kept.ahead q k p) (was q k is);
      }
    where
      equal_ids : (a b : ℕ) → nat_eq a b ≡ true → a ≡ b
      equal_ids a b t = grind (arith, common_steps)

      came : (b : Bool) {q0 : ℕ} → nat_eq id q0 ≡ b → (k : Held A) (q : ℕ) → cond b (Some h) (held_at index q) ≡ Some k → ((id ≡ q0) × (h ≡ k)) ⊎ (held_at index q ≡ Some k)
      came true t k q e = inl (equal_ids id _ t, same_Some _ _ e)
      came false t k q e = inr e

  -- entries were placed anew
  pub kept_settled : (tick next : ℕ) (index index' : Index A) → IsKept tick next index → AreApart index' → AreAhead tick index' → Rearranges 1024 index index'
      → IsKept tick next index'
  kept_settled tick next index index' kept apart ahead same = record {
    now = kept.now;
    last = kept.last;
    apart = apart;
    below = λ q h is.
        let w = held_before (held_at index' q) (held_at index q) q h (same.same q) is in
        subst (λ n. n < next) (ap (λ (r : ℕ × Timer A). r.0) w.2) (kept.below q w.0 w.1);
    ahead = ahead;
  }
