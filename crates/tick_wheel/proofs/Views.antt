-- The list of timers that a wheel shows, against what its index has of each id.
use Rattle.std.proofs.Common.{◌≡◌, ◌≢◌, ℕ, ◌<◌, ◌==◌, not, Bool, true, false, cond, nat_eq, T, List, [], ◌∷◌, ◌++◌, map, Option, Some, None, option_map, refl, sym, ap, ◌∙◌, subst, arith, ⊎_elim}
use Rattle.std.specs.FinMap.Entries.{find, is_sorted}
use Rattle.std.specs.List.{IsDistinct, AllByRecursion, filter, find as first}
use Rattle.std.specs.Map.{keys_of, lookup}
use Rattle.std.specs.Ordering.{nat_cmp}
use Rattle.std.proofs.lemmas.Bool.{cases_eq}
use Rattle.std.proofs.lemmas.Grind.{common_steps}
use Rattle.std.proofs.lemmas.List.{map-append}
use Rattle.std.proofs.lemmas.Map.Keys.{IsDistinct-head, IsDistinct-tail}
use Rattle.std.proofs.lemmas.Option.{none-some, same_Some}
use Rattle.tick_wheel.specs.Held.{Held}
use Rattle.tick_wheel.specs.declared.timer.Timer.{Timer}
use Rattle.tick_wheel.specs.Kept.{numbered, timers_of}
use Rattle.tick_wheel.specs.Table.{Index, IsUnique, AreApart, AreBelow, held_at, ranked_at, rank_of, timer_of}
use Rattle.tick_wheel.specs.TimerList.{timer_at, without}
use Rattle.tick_wheel.proofs.InOrder.{values, unequal, option_ext, sorted-in_order, find-in_order, same_in_order, find_here, find_there, find_cases, find_push, sorted_push, sorted_keep, found_keep, keep_found, values_keep, first_found, found_first}

pub none_distinct : IsDistinct nat_eq []
unfolding IsDistinct
none_distinct = tt

-- where nothing is made of an option it is nothing
pub unmapped : {X Y : Type 0} (f : X → Y) (o : Option X) → option_map f o ≡ None → o ≡ None
unmapped f None is = refl
unmapped f (Some x) is = absurd (none-some (f x) (sym is))

module _ {A : Type 0} where
  abbrev ranks : List (ℕ × Held A) → List (ℕ × Timer A)
  ranks es = map (λ (e : ℕ × Held A). rank_of e.0 e.1) es

  pub lookup_here : (q : ℕ) (e : ℕ × Held A) (es : List (ℕ × Held A)) → q ≡ e.0 → lookup (nat_eq q) (e ∷ es) ≡ Some e.1
  lookup_here q e es same = grind (arith, common_steps)

  pub lookup_there : (q : ℕ) (e : ℕ × Held A) (es : List (ℕ × Held A)) → q ≢ e.0 → lookup (nat_eq q) (e ∷ es) ≡ lookup (nat_eq q) es
  lookup_there q e es apart = grind (arith, common_steps)

  looked_apart : (k q : ℕ) (es : List (ℕ × Held A)) (h : Held A) → AllByRecursion (λ y. nat_eq k y ≡ false) (keys_of es)
      → lookup (nat_eq q) es ≡ Some h → k ≢ q
  looked_apart k q [] h all is = absurd (none-some h is)
  looked_apart k q (e ∷ es) h all is =
      ⊎_elim (λ same d. unequal k e.0 all.0 (d ∙ same)) (λ apart. looked_apart k q es h all.1 (sym (lookup_there q e es apart) ∙ is)) (cases_eq q e.0)

  -- what a number finds is what the index has of the timer's id
  found_looked : (es : List (ℕ × Held A)) (k : ℕ) (t : Timer A) → IsDistinct nat_eq (keys_of es) → find nat_cmp k (ranks es) ≡ Some t
      → (h : Held A) × (lookup (nat_eq t.id) es ≡ Some h) × (rank_of t.id h ≡ (k, t))
  found_looked [] k t d is = absurd (none-some t is)
  found_looked (e ∷ es) k t d is =
      ⊎_elim
      (λ a.
      let id : t.id ≡ e.0 = ap (λ (x : Timer A). x.id) a.1 in
      (e.1, lookup_here t.id e es id, subst (λ q. rank_of q e.1 ≡ (k, t)) (sym id) (λ i. (sym a.0 i, sym a.1 i))))
      (λ a.
      let r = found_looked es k t (IsDistinct-tail nat_eq e.0 (keys_of es) d) a.1 in
      let apart = looked_apart e.0 t.id es r.0 (IsDistinct-head nat_eq e.0 (keys_of es) d) r.1 in
      (r.0, lookup_there t.id e es (λ s. apart (sym s)) ∙ r.1, r.2))
      (find_cases (rank_of e.0 e.1) (ranks es) k t is)

  looked_found : (es : List (ℕ × Held A)) (id : ℕ) (h : Held A) → lookup (nat_eq id) es ≡ Some h → (t : Timer A) × (find nat_cmp h.order (ranks es) ≡ Some t)
  looked_found [] id h is = absurd (none-some h is)
  looked_found (e ∷ es) id h is =
      ⊎_elim
      (λ same.
      let k : e.1 ≡ h = same_Some _ _ (sym (lookup_here id e es same) ∙ is) in
      (timer_of e.0 e.1, find_here (rank_of e.0 e.1) (ranks es) h.order (ap (λ (x : Held A). x.order) (sym k))))
      (λ apart.
      let r = looked_found es id h (sym (lookup_there id e es apart) ∙ is) in
      ⊎_elim
      (λ same. (timer_of e.0 e.1, find_here (rank_of e.0 e.1) (ranks es) h.order same))
      (λ other. (r.0, find_there (rank_of e.0 e.1) (ranks es) h.order other ∙ r.1))
      (cases_eq h.order e.1.order))
      (cases_eq id e.0)

  pub numbered_sorted : (index : Index A) → T (is_sorted nat_cmp (numbered index))
  numbered_sorted index = sorted-in_order (ranks index)

  pub found_held : (index : Index A) (k : ℕ) (t : Timer A) → AreApart index → find nat_cmp k (numbered index) ≡ Some t
      → (h : Held A) × (held_at index t.id ≡ Some h) × (rank_of t.id h ≡ (k, t))
  found_held index k t apart is = found_looked index k t apart.unique (sym (find-in_order (ranks index) k) ∙ is)

  pub held_found : (index : Index A) (id : ℕ) (h : Held A) → AreApart index → held_at index id ≡ Some h
      → find nat_cmp h.order (numbered index) ≡ Some (timer_of id h)
  held_found index id h apart is =
      let r = looked_found index id h is in
      let found : find nat_cmp h.order (numbered index) ≡ Some r.0 = find-in_order (ranks index) h.order ∙ r.1 in
      let k = found_held index h.order r.0 apart found in
      let same : r.0.id ≡ id = apart.once r.0.id id k.0 h k.1 is (ap (λ (x : ℕ × Timer A). x.0) k.2) in
      let held : k.0 ≡ h = same_Some _ _ (sym k.1 ∙ ap (held_at index) same ∙ is) in
      found ∙ ap Some (sym (ap (λ (x : ℕ × Timer A). x.1) k.2) ∙ (λ i. timer_of (same i) (held i)))

  -- the same in terms of ranks
  pub ranked_found : (index : Index A) (id k : ℕ) (t : Timer A) → AreApart index → ranked_at index id ≡ Some (k, t)
      → (find nat_cmp k (numbered index) ≡ Some t) × (t.id ≡ id)
  ranked_found index id k t apart is =
      let h = ranked_held (held_at index id) id k t is in
      let found = held_found index id h.0 apart h.1 in (
        subst (λ n. find nat_cmp n (numbered index) ≡ Some t) (ap (λ (x : ℕ × Timer A). x.0) h.2) (found ∙ ap Some (ap (λ (x : ℕ × Timer A). x.1) h.2)),
        sym (ap (λ (x : ℕ × Timer A). x.1.id) h.2),
      )
    where
      ranked_held : (o : Option (Held A)) (id k : ℕ) (t : Timer A) → option_map (rank_of id) o ≡ Some (k, t) → (h : Held A) × (o ≡ Some h) × (rank_of id h ≡ (k, t))
      ranked_held None id k t is = absurd (none-some _ is)
      ranked_held (Some h) id k t is = (h, refl, same_Some _ _ is)

  pub found_ranked : (index : Index A) (k : ℕ) (t : Timer A) → AreApart index → find nat_cmp k (numbered index) ≡ Some t → ranked_at index t.id ≡ Some (k, t)
  found_ranked index k t apart is =
      let h = found_held index k t apart is in
      ap (option_map (rank_of t.id)) h.1 ∙ ap Some h.2

  -- the same ranks make the same list
  pub timers_same : (old new : Index A) → AreApart old → AreApart new → ((q : ℕ) → ranked_at new q ≡ ranked_at old q) → timers_of new ≡ timers_of old
  timers_same old new apart apart' same =
      ap values (same_in_order _ _ (numbered_sorted new) (numbered_sorted old) (λ k. option_ext _ _
      (λ w is. (ranked_found old w.id k w apart (sym (same w.id) ∙ found_ranked new k w apart' is)).0)
      (λ w is. (ranked_found new w.id k w apart' (same w.id ∙ found_ranked old k w apart is)).0)))

  -- one timer more, which was scheduled last
  pub timers_push : (old new : Index A) (next id : ℕ) (h : Held A) → AreApart old → AreApart new → AreBelow next old → held_at old id ≡ None → h.order ≡ next
      → ((q : ℕ) → held_at new q ≡ cond (nat_eq id q) (Some h) (held_at old q))
      → timers_of new ≡ timers_of old ++ timer_of id h ∷ []
  timers_push old new next id h apart apart' below free order updates =
      let low : (q : ℕ) (w : Timer A) → find nat_cmp q (numbered old) ≡ Some w → q < next = λ q w is.
      let k = found_held old q w apart is in
      subst (λ n. n < next) (ap (λ (x : ℕ × Timer A). x.0) k.2) (below w.id k.0 k.1) in
      let t : Timer A = timer_of id h in
      let none : find nat_cmp next (numbered old) ≡ None = option_ext _ None (λ w is. absurd (omega (arith, low next w is))) (λ w is. absurd (none-some w is)) in
      let pushed : (k : ℕ) → find nat_cmp k (numbered old ++ (next, t) ∷ []) ≡ cond (nat_eq k next) (Some t) (find nat_cmp k (numbered old)) = λ k. find_push (numbered old) next t k none in
      let same : numbered new ≡ numbered old ++ (next, t) ∷ [] =
      same_in_order _ _ (numbered_sorted new) (sorted_push (numbered old) next t (numbered_sorted old) low) (λ k. option_ext _ _
      (λ w is.
      let r = found_held new k w apart' is in
      ⊎_elim
      (λ a.
      let hh : r.0 ≡ h = same_Some _ _ (sym r.1 ∙ updates w.id ∙ at_yes id w.id h (held_at old w.id) a) in
      let kk : k ≡ next = sym (ap (λ (x : ℕ × Timer A). x.0) r.2) ∙ ap (λ (x : Held A). x.order) hh ∙ order in
      let ww : w ≡ t = sym (ap (λ (x : ℕ × Timer A). x.1) r.2) ∙ (λ i. timer_of (sym a i) (hh i)) in
      pushed k ∙ at_yes_timer k next t (find nat_cmp k (numbered old)) kk ∙ ap Some (sym ww))
      (λ a.
      let was : held_at old w.id ≡ Some r.0 = sym (updates w.id ∙ at_no id w.id h (held_at old w.id) a) ∙ r.1 in
      let found : find nat_cmp k (numbered old) ≡ Some w = subst (λ n. find nat_cmp n (numbered old) ≡ Some w) (ap (λ (x : ℕ × Timer A). x.0) r.2) (held_found old w.id r.0 apart was ∙ ap Some (ap (λ (x : ℕ × Timer A). x.1) r.2)) in
      pushed k ∙ at_no_timer k next t (find nat_cmp k (numbered old)) (λ d. omega (arith, low k w found, d)) ∙ found)
      (cases_eq id w.id))
      (λ w is.
      ⊎_elim
      (λ a.
      let ww : t ≡ w = same_Some _ _ (sym (pushed k ∙ at_yes_timer k next t (find nat_cmp k (numbered old)) a) ∙ is) in
      let r = held_found new id h apart' (updates id ∙ at_yes id id h (held_at old id) refl) in
      subst (λ n. find nat_cmp n (numbered new) ≡ Some w) (order ∙ sym a) (r ∙ ap Some ww))
      (λ a.
      let found : find nat_cmp k (numbered old) ≡ Some w = sym (pushed k ∙ at_no_timer k next t (find nat_cmp k (numbered old)) a) ∙ is in
      let r = found_held old k w apart found in
      let ne : id ≢ w.id = λ d. none-some r.0 (sym free ∙ ap (held_at old) d ∙ r.1) in
      let m = held_found new w.id r.0 apart' (updates w.id ∙ at_no id w.id h (held_at old w.id) ne ∙ r.1) in
      subst (λ n. find nat_cmp n (numbered new) ≡ Some w) (ap (λ (x : ℕ × Timer A). x.0) r.2) (m ∙ ap Some (ap (λ (x : ℕ × Timer A). x.1) r.2)))
      (cases_eq k next))) in
      ap values same ∙ map-append (λ (e : ℕ × Timer A). e.1) (numbered old) ((next, t) ∷ [])
    where
      at_yes : (a b : ℕ) (h : Held A) (o : Option (Held A)) → a ≡ b → cond (nat_eq a b) (Some h) o ≡ Some h
      at_yes a b h o same = grind (arith, common_steps)

      at_no : (a b : ℕ) (h : Held A) (o : Option (Held A)) → a ≢ b → cond (nat_eq a b) (Some h) o ≡ o
      at_no a b h o apart = grind (arith, common_steps)

      at_yes_timer : (a b : ℕ) (h : Timer A) (o : Option (Timer A)) → a ≡ b → cond (nat_eq a b) (Some h) o ≡ Some h
      at_yes_timer a b h o same = grind (arith, common_steps)

      at_no_timer : (a b : ℕ) (h : Timer A) (o : Option (Timer A)) → a ≢ b → cond (nat_eq a b) (Some h) o ≡ o
      at_no_timer a b h o apart = grind (arith, common_steps)

  -- an id's timer is gone
  pub timers_drop : (old new : Index A) (id : ℕ) → AreApart old → AreApart new
      → ((q : ℕ) → ranked_at new q ≡ cond (nat_eq id q) None (ranked_at old q))
      → timers_of new ≡ without id (timers_of old)
  timers_drop old new id apart apart' updates =
      let p : Timer A → Bool = λ t. not (t.id == id) in
      let same : numbered new ≡ filter (λ (e : ℕ × Timer A). not (e.1.id == id)) (numbered old) =
      same_in_order _ _ (numbered_sorted new) (sorted_keep p (numbered old) (numbered_sorted old)) (λ k. option_ext _ _
      (λ w is.
      let r = found_ranked new k w apart' is in
      let other : id ≢ w.id = λ d. none-some _ (sym (updates w.id ∙ gone id w.id (ranked_at old w.id) d) ∙ r) in
      let was : ranked_at old w.id ≡ Some (k, w) = sym (updates w.id ∙ stays id w.id (ranked_at old w.id) other) ∙ r in
      keep_found p (numbered old) k w (numbered_sorted old) (ranked_found old w.id k w apart was).0 (passes w.id id (λ d. other (sym d))))
      (λ w is.
      let r = found_keep p (numbered old) k w (numbered_sorted old) is in
      let other : id ≢ w.id = λ d. fails w.id id r.1 (sym d) in
      (ranked_found new w.id k w apart' (updates w.id ∙ stays id w.id (ranked_at old w.id) other ∙ found_ranked old k w apart r.0)).0)) in
      ap values same ∙ values_keep p (numbered old)
    where
      gone : (a b : ℕ) (o : Option (ℕ × Timer A)) → a ≡ b → cond (nat_eq a b) None o ≡ None
      gone a b o same = grind (arith, common_steps)

      stays : (a b : ℕ) (o : Option (ℕ × Timer A)) → a ≢ b → cond (nat_eq a b) None o ≡ o
      stays a b o apart = grind (arith, common_steps)

      passes : (a b : ℕ) → a ≢ b → not (a == b) ≡ true
      passes a b apart = grind (arith, common_steps)

      fails : (a b : ℕ) → not (a == b) ≡ true → a ≢ b
      fails a b t same = grind (arith, common_steps)

  -- the timer of an id, in the list and in the index
  pub timer_at-timers_of : (index : Index A) (id : ℕ) → AreApart index → timer_at id (timers_of index) ≡ option_map (timer_of id) (held_at index id)
  timer_at-timers_of index id apart =
      let p : Timer A → Bool = λ t. t.id == id in
      let forth : (t : Timer A) → first p (timers_of index) ≡ Some t → option_map (timer_of id) (held_at index id) ≡ Some t = λ t is.
      let r = first_found p (numbered index) t (numbered_sorted index) is in
      let k = found_held index r.0 t apart r.1 in
      let same : t.id ≡ id = equal_ids t.id id r.2 in
      ap (option_map (timer_of id)) (ap (held_at index) (sym same) ∙ k.1) ∙ ap Some (subst (λ q. timer_of q k.0 ≡ t) same (ap (λ (x : ℕ × Timer A). x.1) k.2)) in
      option_ext _ _ forth
      (λ t is.
      let h = held_timer (held_at index id) id t is in
      let f = found_first p (numbered index) h.0.order (timer_of id h.0) (held_found index id h.0 apart h.1) (itself id) in
      f.1 ∙ sym (forth f.0 f.1) ∙ is)
    where
      equal_ids : (a b : ℕ) → (a == b) ≡ true → a ≡ b
      equal_ids a b t = grind (arith, common_steps)

      itself : (a : ℕ) → (a == a) ≡ true
      itself a = grind (arith, common_steps)

      held_timer : (o : Option (Held A)) (id : ℕ) (t : Timer A) → option_map (timer_of id) o ≡ Some t → (h : Held A) × (o ≡ Some h)
      held_timer None id t is = absurd (none-some _ is)
      held_timer (Some h) id t is = (h, refl)

  -- apart without an id
  pub apart_from_drop : (old new : Index A) (id : ℕ) → AreApart old → IsUnique new
      → ((q : ℕ) → ranked_at new q ≡ cond (nat_eq id q) None (ranked_at old q)) → AreApart new
  apart_from_drop old new id apart unique updates = record {
    unique = unique;
    once = λ a b h k is also e.
        let x = was a h is in
        let y = was b k also in
        apart.once a b x.0 y.0 x.1 y.1 (ap (λ (r : ℕ × Timer A). r.0) x.2 ∙ e ∙ sym (ap (λ (r : ℕ × Timer A). r.0) y.2));
  }
    where
      was : (q : ℕ) (h : Held A) → held_at new q ≡ Some h → (k : Held A) × (held_at old q ≡ Some k) × (rank_of q k ≡ rank_of q h)
      was q h is =
          let r : ranked_at new q ≡ Some (rank_of q h) = ap (option_map (rank_of q)) is in
          still (held_at old q) q (rank_of q h) (stays id q (ranked_at old q) (rank_of q h) (sym (updates q) ∙ r))
        where
          stays : (a b : ℕ) (o : Option (ℕ × Timer A)) (x : ℕ × Timer A) → cond (nat_eq a b) None o ≡ Some x → o ≡ Some x
          stays a b o x is = elim (nat_eq a b) as (λ t. cond t None o ≡ Some x → o ≡ Some x) [ true ↦ λ e. absurd (none-some x e) | false ↦ λ e. e ] is

          still : (o : Option (Held A)) (q : ℕ) (x : ℕ × Timer A) → option_map (rank_of q) o ≡ Some x → (k : Held A) × (o ≡ Some k) × (rank_of q k ≡ x)
          still None q x e = absurd (none-some x e)
          still (Some k) q x e = (k, refl, same_Some _ _ e)
