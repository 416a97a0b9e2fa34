-- How many entries stand in a slot, against how many timers are due within a range.
use Rattle.std.proofs.Common.{◌≡◌, ◌≢◌, ℕ, ◌+◌, ◌-◌, ◌%◌, ◌<◌, ◌≤◌, ◌==◌, ◌&&◌, Bool, true, false, cond, nat_eq, nat_le, List, [], ◌∷◌, length, map, get_or, Option, Some, None, refl, sym, ap, ◌∙◌, subst, arith}
use Rattle.std.specs.Cmp.{nat_eq_equiv}
use Rattle.std.specs.List.{IsDistinct, All, sum_by, count_by}
use Rattle.std.specs.Map.{keys_of, values_of, lookup}
use Rattle.std.specs.Option.{IfSome}
use Rattle.std.proofs.lemmas.Grind.{common_steps}
use Rattle.std.proofs.lemmas.List.{length-map, get_or-map}
use Rattle.std.proofs.lemmas.List.Elements.{All-head, All-tail}
use Rattle.std.proofs.lemmas.List.Sums.{sum_by-cons}
use Rattle.std.proofs.lemmas.Map.Entries.{lookup_from_place}
use Rattle.std.proofs.lemmas.Map.Keys.{IsDistinct-from_apart, apart_from_distinct}
use Rattle.std.proofs.lemmas.Map.Views.{All-values_from_lookup}
use Rattle.std.proofs.lemmas.Option.{slice_get-get_or}
use Rattle.tick_wheel.specs.Held.{Held}
use Rattle.tick_wheel.specs.declared.timer.Timer.{Timer}
use Rattle.tick_wheel.specs.Kept.{timers_of}
use Rattle.tick_wheel.specs.Place.{IsWheel, IsAhead, turning_slot}
use Rattle.tick_wheel.specs.Steps.{count_turning}
use Rattle.tick_wheel.specs.Table.{Index, AreApart, AreAhead, rank_of, timer_of, in_slot}
use Rattle.tick_wheel.proofs.InOrder.{values, sum-in_order, unequal}
use Rattle.tick_wheel.proofs.Places.{due_from_turning}

pub ones : {X : Type 0} (xs : List X) → sum_by (λ (_ : X). 1) xs ≡ length xs
ones [] = refl
ones {X = X} (x ∷ xs) = sum_by-cons (λ (_ : X). 1) x xs ∙ ap (λ n. 1 + n) (ones xs) ∙ (omega arith)

module _ {A : Type 0} where
  -- as many or fewer pass the one test, where whatever passes it passes the other
  count_le : (p q : Held A → Bool) (vs : List (Held A)) → All (λ h. p h ≡ true → q h ≡ true) vs → count_by p vs ≤ count_by q vs
  count_le p q [] all = omega arith
  count_le p q (v ∷ vs) all =
      let rest = count_le p q vs (All-tail (λ h. p h ≡ true → q h ≡ true) v vs all) in
      let first : one_of (p v) ≤ one_of (q v) = implies (p v) (q v) (All-head (λ h. p h ≡ true → q h ≡ true) v vs all) in
      omega (arith, rest, first, sum_by-cons (λ h. cond (p h) 1 0) v vs, sum_by-cons (λ h. cond (q h) 1 0) v vs)
    where
      one_of : Bool → ℕ
      one_of b = cond b 1 0

      implies : (a b : Bool) → (a ≡ true → b ≡ true) → one_of a ≤ one_of b
      implies true b h = subst (λ t. 1 ≤ one_of t) (sym (h refl)) (omega arith)
      implies false b h = omega arith

  -- the numbers of scheduling differ
  orders_distinct : (es : List (ℕ × Held A)) → IsDistinct nat_eq (keys_of es)
      → ((id other : ℕ) (held also : Held A) → lookup (nat_eq id) es ≡ Some held → lookup (nat_eq other) es ≡ Some also → held.order ≡ also.order → id ≡ other)
      → IsDistinct nat_eq (keys_of (map (λ (e : ℕ × Held A). rank_of e.0 e.1) es))
  orders_distinct [] distinct once = distinct
  orders_distinct (e0 ∷ es) distinct once =
      let xs : List (ℕ × Held A) = e0 ∷ es in
      let at : ℕ → ℕ × Held A = λ i. get_or xs i e0 in
      let rs : List (ℕ × Timer A) = map (λ (e : ℕ × Held A). rank_of e.0 e.1) xs in
      IsDistinct-from_apart nat_eq (keys_of rs) (λ i j d low within.
      let size : length (keys_of rs) ≡ length xs = length-map rs (λ (r : ℕ × Timer A). r.0) ∙ length-map xs (λ (e : ℕ × Held A). rank_of e.0 e.1) in
      let j_in : j < length xs = omega (arith, within, size) in
      let i_in : i < length xs = omega (arith, j_in, low) in
      let found : (k : ℕ) → k < length xs → lookup (nat_eq (at k).0) xs ≡ Some (at k).1 = λ k h. lookup_from_place nat_eq_equiv xs k (at k).0 (at k).1 distinct (slice_get-get_or xs k e0 h) in
      let order : (k : ℕ) → k < length xs → get_or (keys_of rs) k d ≡ (at k).1.order = λ k h.
      get_or-map (λ (r : ℕ × Timer A). r.0) rs k (rank_of e0.0 e0.1) d (subst (λ n. k < n) (sym (length-map xs (λ (e : ℕ × Held A). rank_of e.0 e.1))) h)
      ∙ ap (λ (r : ℕ × Timer A). r.0) (get_or-map (λ (e : ℕ × Held A). rank_of e.0 e.1) xs k e0 (rank_of e0.0 e0.1) h) in
      let key : (k : ℕ) → k < length xs → get_or (keys_of xs) k d ≡ (at k).0 = λ k h. get_or-map (λ (e : ℕ × Held A). e.0) xs k e0 d h in
      different _ _ (λ same.
      let ids : (at i).0 ≡ (at j).0 = once (at i).0 (at j).0 (at i).1 (at j).1 (found i i_in) (found j j_in) (sym (order i i_in) ∙ same ∙ order j j_in) in
      unequal _ _ (apart_from_distinct nat_eq (keys_of xs) i j d distinct low (subst (λ n. j < n) (sym (length-map xs (λ (e : ℕ × Held A). e.0))) j_in))
      (key i i_in ∙ ids ∙ sym (key j j_in))))
    where
      different : (a b : ℕ) → a ≢ b → nat_eq a b ≡ false
      different a b apart = grind (arith, common_steps)

  -- a sum over the timers is a sum over what the index holds
  sum_ranked : (f : Timer A → ℕ) (es : List (ℕ × Held A)) → sum_by f (values (map (λ (e : ℕ × Held A). rank_of e.0 e.1) es)) ≡ sum_by (λ (e : ℕ × Held A). f (timer_of e.0 e.1)) es
  sum_ranked f [] = refl
  sum_ranked f (e ∷ es) =
      sum_by-cons f (timer_of e.0 e.1) (values (map (λ (x : ℕ × Held A). rank_of x.0 x.1) es)) ∙ ap (λ n. f (timer_of e.0 e.1) + n) (sum_ranked f es)
      ∙ sym (sum_by-cons (λ (x : ℕ × Held A). f (timer_of x.0 x.1)) e es)

  pub sum-timers_of : (f : Timer A → ℕ) (index : Index A) → AreApart index → sum_by f (timers_of index) ≡ sum_by (λ (e : ℕ × Held A). f (timer_of e.0 e.1)) index
  sum-timers_of f index apart =
      sum-in_order f (map (λ (e : ℕ × Held A). rank_of e.0 e.1) index) (orders_distinct index apart.unique apart.once) ∙ sum_ranked f index

  pub sum-values : (f : Held A → ℕ) (es : List (ℕ × Held A)) → sum_by f (values_of es) ≡ sum_by (λ (e : ℕ × Held A). f e.1) es
  sum-values f [] = refl
  sum-values f (e ∷ es) = sum_by-cons f e.1 (values_of es) ∙ ap (λ n. f e.1 + n) (sum-values f es) ∙ sym (sum_by-cons (λ (x : ℕ × Held A). f x.1) e es)

  -- a count of timers by their due ticks is one of what the index holds
  pub count-timers_of : (p : ℕ → Bool) (index : Index A) → AreApart index
      → count_by (λ (t : Timer A). p t.due) (timers_of index) ≡ count_by (λ (h : Held A). p h.due) (values_of index)
  count-timers_of p index apart =
      sum-timers_of (λ (t : Timer A). cond (p t.due) 1 0) index apart ∙ sym (sum-values (λ (h : Held A). cond (p h.due) 1 0) index)

  -- as many timers as entries
  pub length-timers_of : (index : Index A) → AreApart index → length (timers_of index) ≡ length index
  length-timers_of index apart = sym (ones (timers_of index)) ∙ sum-timers_of (λ _. 1) index apart ∙ ones index

  -- what stands in the slot that turns is due within its width
  pub in_slot-le : (index : Index A) (first width now : ℕ) → AreApart index → AreAhead now index → IsWheel first width → (now + 1) % width ≡ 0
      → in_slot (turning_slot first width (now + 1)) index ≤ count_turning width (now + 1) (timers_of index)
  in_slot-le index first width now apart ahead wheel turns =
      let slot : ℕ = turning_slot first width (now + 1) in
      let p : Held A → Bool = λ h. h.slot == slot in
      let within : ℕ → Bool = λ due. nat_le (now + 1) due && nat_le due (now + 1 + (width - 1)) in
      let all : All (λ (h : Held A). p h ≡ true → within h.due ≡ true) (values_of index) =
      All-values_from_lookup nat_eq_equiv (λ (h : Held A). p h ≡ true → within h.due ≡ true) index apart.unique (λ q. if_found (lookup (nat_eq q) index)
      (λ h is here.
      let at : IsAhead now h.due slot = subst (λ s. IsAhead now h.due s) (equal_ids h.slot slot here) (ahead q h is) in
      let range = due_from_turning first width now h.due wheel turns at in
      in_range (now + 1) h.due width range.0 range.1)) in
      let le = count_le p (λ h. within h.due) (values_of index) all in
      let same : count_by (λ (t : Timer A). within t.due) (timers_of index) ≡ count_by (λ (h : Held A). within h.due) (values_of index) = count-timers_of within index apart in
      let now' = turned ((now + 1) % width) (count_by (λ (t : Timer A). within t.due) (timers_of index)) turns in
      omega (arith, le, same, now')
    where
      equal_ids : (a b : ℕ) → (a == b) ≡ true → a ≡ b
      equal_ids a b t = grind (arith, common_steps)

      in_range : (a b w : ℕ) → a ≤ b → b < a + w → (nat_le a b && nat_le b (a + (w - 1))) ≡ true
      in_range a b w h k = grind (arith, common_steps)

      turned : (r n : ℕ) → r ≡ 0 → cond (r == 0) n 0 ≡ n
      turned r n z = grind (arith, common_steps)

      if_found : (o : Option (Held A)) {P : Held A → Type 0} → ((h : Held A) → o ≡ Some h → P h) → IfSome o P
      if_found None f = tt
      if_found (Some h) f = f h refl
