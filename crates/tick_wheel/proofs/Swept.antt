-- All timers leave in order of their ids.
use Rattle.std.proofs.Common.{◌≡◌, ◌≢◌, ℕ, ◌+◌, ◌<◌, ◌≤◌, ◌==◌, Bool, true, false, cond, nat_eq, List, [], ◌∷◌, ◌++◌, length, map, get_or, Option, Some, None, option_map, IsSome, refl, sym, ap, ◌∙◌, subst, arith, ⊎_elim}
use Rattle.std.specs.Cmp.{nat_eq_equiv}
use Rattle.std.specs.FinMap.Entries.{find}
use Rattle.std.specs.List.{IsDistinct}
use Rattle.std.specs.List.Sorted.{IsPermutation, IsNonDecreasing}
use Rattle.std.specs.Map.{keys_of}
use Rattle.std.specs.Ordering.{nat_cmp}
use Rattle.std.proofs.lemmas.Bool.{cases_eq}
use Rattle.std.proofs.lemmas.Grind.{common_steps}
use Rattle.std.proofs.lemmas.List.{get_or_default, append-nil}
use Rattle.std.proofs.lemmas.List.Elements.{Contains-get_or}
use Rattle.std.proofs.lemmas.List.Sorted.{Contains-permutation, IsPermutation-sym}
use Rattle.std.proofs.lemmas.Map.Keys.{IsDistinct-IsPermutation, IsStrictlyIncreasing-from_distinct, sorted_from_strictly_increasing, below_from_sorted}
use Rattle.std.proofs.lemmas.Map.Made.{nil_from_lookup}
use Rattle.std.proofs.lemmas.Map.Views.{Contains-keys_from_lookup, IsSome-lookup_from_Contains}
use Rattle.std.proofs.lemmas.Option.{none-some, same_Some}
use Rattle.tick_wheel.specs.Handouts.{handouts_of}
use Rattle.tick_wheel.specs.Held.{Held}
use Rattle.tick_wheel.specs.declared.timer.Timer.{Timer}
use Rattle.tick_wheel.specs.InOrder.{in_order}
use Rattle.tick_wheel.specs.Kept.{timers_of}
use Rattle.tick_wheel.specs.Sweep.{IsListed}
use Rattle.tick_wheel.specs.Table.{Index, AreApart, held_at, ranked_at, rank_of, timer_of}
use Rattle.tick_wheel.specs.TimerList.{timer_at, by_id}
use Rattle.tick_wheel.proofs.InOrder.{values, unequal, sorted-in_order, find-in_order, same_in_order, find_here, find_there, sorted_cons}
use Rattle.tick_wheel.proofs.Views.{timer_at-timers_of}

module _ {A : Type 0} where
  abbrev pub keyed : List (Timer A) → List (ℕ × Timer A)
  keyed ts = map (λ (t : Timer A). (t.id, t)) ts

  -- by ids the same is found as by a search
  find-keyed : (ts : List (Timer A)) (k : ℕ) → find nat_cmp k (keyed ts) ≡ timer_at k ts
  find-keyed [] k = refl
  find-keyed (t ∷ ts) k =
      ⊎_elim
      (λ same. find_here (t.id, t) (keyed ts) k same ∙ sym (at_here k same))
      (λ apart. find_there (t.id, t) (keyed ts) k apart ∙ find-keyed ts k ∙ sym (at_there k apart))
      (cases_eq k t.id)
    where
      at_here : (k : ℕ) → k ≡ t.id → cond (t.id == k) (Some t) (timer_at k ts) ≡ Some t
      at_here k same = grind (arith, common_steps)

      at_there : (k : ℕ) → k ≢ t.id → cond (t.id == k) (Some t) (timer_at k ts) ≡ timer_at k ts
      at_there k apart = grind (arith, common_steps)

  find-by_id : (index : Index A) (k : ℕ) → AreApart index → find nat_cmp k (in_order (keyed (timers_of index))) ≡ option_map (timer_of k) (held_at index k)
  find-by_id index k apart = find-in_order (keyed (timers_of index)) k ∙ find-keyed (timers_of index) k ∙ timer_at-timers_of index k apart

  -- the least id's timer stands first
  pub least_first : (index index' : Index A) (id : ℕ) (h : Held A) → AreApart index → AreApart index' → held_at index id ≡ Some h
      → ((q : ℕ) → ranked_at index' q ≡ cond (nat_eq id q) None (ranked_at index q))
      → ((q : ℕ) (k : Held A) → held_at index' q ≡ Some k → id < q)
      → by_id (timers_of index) ≡ timer_of id h ∷ by_id (timers_of index')
  least_first index index' id h apart apart' is updates least =
      let t : Timer A = timer_of id h in
      let xs : List (ℕ × Timer A) = in_order (keyed (timers_of index')) in
      let above : (k : ℕ) (w : Timer A) → find nat_cmp k xs ≡ Some w → id < k = λ k w f.
      let m = mapped (held_at index' k) k w (sym (find-by_id index' k apart') ∙ f) in
      least k m.0 m.1 in
      ap values (same_in_order _ ((id, t) ∷ xs) (sorted-in_order (keyed (timers_of index))) (sorted_cons id t xs (sorted-in_order (keyed (timers_of index'))) above)
      (λ k. find-by_id index k apart ∙ ⊎_elim
      (λ same. ap (λ q. option_map (timer_of q) (held_at index q)) same ∙ ap (option_map (timer_of id)) is ∙ sym (find_here (id, t) xs k same))
      (λ ne. ranked_timer (held_at index k) (held_at index' k) k (sym (updates k ∙ stays id k (ranked_at index k) (λ d. ne (sym d)))) ∙ sym (find-by_id index' k apart') ∙ sym (find_there (id, t) xs k ne))
      (cases_eq k id)))
    where
      mapped : (o : Option (Held A)) (k : ℕ) (w : Timer A) → option_map (timer_of k) o ≡ Some w → (m : Held A) × (o ≡ Some m)
      mapped None k w e = absurd (none-some _ e)
      mapped (Some m) k w e = (m, refl)

      stays : (a b : ℕ) (o : Option (ℕ × Timer A)) → a ≢ b → cond (nat_eq a b) None o ≡ o
      stays a b o ne = grind (arith, common_steps)

      ranked_timer : (o p : Option (Held A)) (k : ℕ) → option_map (rank_of k) o ≡ option_map (rank_of k) p → option_map (timer_of k) o ≡ option_map (timer_of k) p
      ranked_timer None None k e = refl
      ranked_timer None (Some m) k e = absurd (none-some _ e)
      ranked_timer (Some m) None k e = absurd (none-some _ (sym e))
      ranked_timer (Some m) (Some n) k e = ap (λ (r : ℕ × Timer A). Some r.1) (same_Some _ _ e)

  -- what is still held was held, under another id
  pub still_ranked : (index index' : Index A) (id q : ℕ) (k : Held A) → ((q : ℕ) → ranked_at index' q ≡ cond (nat_eq id q) None (ranked_at index q))
      → held_at index' q ≡ Some k → (id ≢ q) × ((m : Held A) × (held_at index q ≡ Some m))
  still_ranked index index' id q k updates is = was (nat_eq id q) (held_at index q) refl refl (sym (updates q) ∙ ap (option_map (rank_of q)) is)
    where
      was : (b : Bool) (o : Option (Held A)) → nat_eq id q ≡ b → held_at index q ≡ o → cond b None (option_map (rank_of q) o) ≡ Some (rank_of q k)
          → (id ≢ q) × ((m : Held A) × (held_at index q ≡ Some m))
      was true o t f e = absurd (none-some _ e)
      was false None t f e = absurd (none-some _ e)
      was false (Some m) t f e = (unequal id q t, (m, f))

  pub listed_on : (ids : List ℕ) (place : ℕ) (index index' : Index A) → IsListed ids place index → place < length ids
      → ((q : ℕ) → ranked_at index' q ≡ cond (nat_eq (get_or ids place 0) q) None (ranked_at index q)) → IsListed ids (place + 1) index'
  listed_on ids place index index' listed within updates = record {
    rises = listed.rises;
    each = λ i low high.
        let h = listed.each i (omega (arith, low)) high in
        still_there (held_at index' (get_or ids i 0)) (get_or ids i 0) h.0
        (updates (get_or ids i 0) ∙ stays (get_or ids place 0) (get_or ids i 0) (ranked_at index (get_or ids i 0)) (λ d. omega (arith, listed.rises place i (omega (arith, low)) high, d))
        ∙ ap (option_map (rank_of (get_or ids i 0))) h.1);
    all = λ id k is.
        let w = still_ranked index index' (get_or ids place 0) id k updates is in
        let f = listed.all id w.1.0 w.1.1 in
        (f.0, next f.0 f.1 (λ d. w.0 (ap (λ n. get_or ids n 0) (sym d) ∙ f.3)), f.2, f.3);
  }
    where
      stays : (a b : ℕ) (o : Option (ℕ × Timer A)) → a ≢ b → cond (nat_eq a b) None o ≡ o
      stays a b o ne = grind (arith, common_steps)

      still_there : (o : Option (Held A)) (q : ℕ) (h : Held A) → option_map (rank_of q) o ≡ Some (rank_of q h) → (m : Held A) × (o ≡ Some m)
      still_there None q h e = absurd (none-some _ e)
      still_there (Some m) q h e = (m, refl)

      next : (n : ℕ) → place ≤ n → n ≢ place → place + 1 ≤ n
      next n low ne = omega (arith, low, ne)

  -- the ids of a map, in order
  pub listed_all : (ids : List ℕ) (index : Index A) → AreApart index → IsPermutation (keys_of index) ids → IsNonDecreasing ids → IsListed ids 0 index
  listed_all ids index apart same rises =
      let distinct : IsDistinct nat_eq ids = IsDistinct-IsPermutation nat_eq flips (keys_of index) ids same apart.unique in
      let strict = sorted_from_strictly_increasing ids (IsStrictlyIncreasing-from_distinct ids rises distinct) in
      record {
        rises = λ i j low high. below_from_sorted ids i j 0 strict low high;
        each = λ i low high. held_there (held_at index (get_or ids i 0)) (IsSome-lookup_from_Contains nat_eq_equiv (get_or ids i 0) index
            (Contains-permutation ids (keys_of index) (get_or ids i 0) (IsPermutation-sym (keys_of index) ids same) (Contains-get_or ids i 0 high)));
        all = λ id h is.
            let c = Contains-permutation (keys_of index) ids id same (Contains-keys_from_lookup equal_keys id index (subst (λ (o : Option (Held A)). IsSome o) (sym is) refl)) in
            (c.0, omega arith, c.1, placed ids c.0 id c.1 c.2);
      }
    where
      equal_keys : (a b : ℕ) → nat_eq a b ≡ true → a ≡ b
      equal_keys a b t = grind (arith, common_steps)

      flips : (a b : ℕ) → nat_eq a b ≡ nat_eq b a
      flips a b = grind (arith, common_steps)

      held_there : (o : Option (Held A)) → IsSome o → (m : Held A) × (o ≡ Some m)
      held_there None e = absurd (false_true e)
        where
          false_true : false ≡ true → ⊥
          false_true e = cc
      held_there (Some m) e = (m, refl)

      placed : (xs : List ℕ) (k x : ℕ) → k < length xs → get_or xs k x ≡ x → get_or xs k 0 ≡ x
      placed xs k x low e = get_or_default xs k 0 x low ∙ e

  -- at the end nothing is held
  pub swept : (ids : List ℕ) (place : ℕ) (index : Index A) → IsListed ids place index → length ids ≤ place → index ≡ []
  swept ids place index listed over = nil_from_lookup nat_eq_equiv index (λ q. none (held_at index q) (λ h is. let f = listed.all q h is in omega (arith, f.1, f.2, over)))
    where
      none : (o : Option (Held A)) → ((h : Held A) → o ≡ Some h → ⊥) → o ≡ None
      none None f = refl
      none (Some h) f = absurd (f h refl)

  pub still_above : (ids : List ℕ) (place : ℕ) (index index' : Index A) → IsListed ids place index
      → ((q : ℕ) → ranked_at index' q ≡ cond (nat_eq (get_or ids place 0) q) None (ranked_at index q))
      → (q : ℕ) (k : Held A) → held_at index' q ≡ Some k → get_or ids place 0 < q
  still_above ids place index index' listed updates q k is =
      let w = still_ranked index index' (get_or ids place 0) q k updates is in
      let f = listed.all q w.1.0 w.1.1 in
      let later : place < f.0 = after f.0 f.1 (λ d. w.0 (ap (λ n. get_or ids n 0) (sym d) ∙ f.3)) in
      subst (λ n. get_or ids place 0 < n) f.3 (listed.rises place f.0 later f.2)
    where
      after : (n : ℕ) → place ≤ n → n ≢ place → place < n
      after n low ne = omega (arith, low, ne)

  pub behind_none : (xs ys : List A) → ys ≡ [] → xs ≡ ys ++ xs
  behind_none xs ys none = ap (λ (zs : List A). zs ++ xs) (sym none)

  pub all_swept : {X : Type 0} (handout : ℕ → A → X) (index0 index : Index A) (given : List X)
      → handouts_of handout (by_id (timers_of index0)) ≡ given ++ handouts_of handout (by_id (timers_of index)) → index ≡ [] → given ≡ handouts_of handout (by_id (timers_of index0))
  all_swept handout index0 index given moved empty =
      sym (append-nil given)
      ∙ ap (λ (es : List (ℕ × Held A)). given ++ handouts_of handout (by_id (map (λ (r : ℕ × Timer A). r.1) (in_order (map (λ (e : ℕ × Held A). rank_of e.0 e.1) es))))) (sym empty)
      ∙ sym moved
