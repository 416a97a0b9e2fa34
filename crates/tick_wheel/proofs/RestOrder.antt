-- Entries that ascend by due tick and order of scheduling are the timers by due tick.
use Rattle.std.proofs.Common.{zero, suc, ◌≡◌, ◌≢◌, ℕ, ◌<◌, ◌≤◌, ◌==◌, ◌⊎◌, inl, inr, not, Bool, true, false, cond, T, List, [], ◌∷◌, ◌++◌, length, map, get_or, Some, refl, sym, ap, ◌∙◌, subst, arith, ⊎_elim}
use Rattle.std.specs.FinMap.Entries.{find, is_sorted}
use Rattle.std.specs.List.{filter, sum_by, Contains}
use Rattle.std.specs.Ordering.{nat_cmp}
use Rattle.std.proofs.lemmas.Grind.{common_steps}
use Rattle.std.proofs.lemmas.List.Elements.{Contains-push_cases}
use Rattle.std.proofs.lemmas.List.Sums.{sum_by-cons}
use Rattle.tick_wheel.specs.declared.timer.Timer.{Timer}
use Rattle.tick_wheel.specs.Resting.{Entry, key_of_entry, timer_of_entry}
use Rattle.tick_wheel.specs.TimerList.{by_due}
use Rattle.tick_wheel.proofs.ByDue.{first_due}
use Rattle.tick_wheel.proofs.InOrder.{values, find_here, sorted_keep, found_keep, keep_found, values_keep}

-- the first of a list, or one behind it
pub first_or_later : {X : Type 0} (y : X) (ys : List X) (x : X) → Contains (y ∷ ys) x → (y ≡ x) ⊎ Contains ys x
first_or_later {X = X} y ys x c = by_place c.0 refl c.1 c.2
  where
    by_place : (k : ℕ) → k ≡ c.0 → k < length (y ∷ ys) → get_or (y ∷ ys) k x ≡ x → (y ≡ x) ⊎ Contains ys x
    by_place zero same low is = inl is
    by_place (suc k) same low is = inr (k, omega (arith, low), is)

pub later : {X : Type 0} (y : X) (ys : List X) (x : X) → Contains ys x → Contains (y ∷ ys) x
later {X = X} y ys x c = (suc c.0, omega (arith, c.1), c.2)

pub here : {X : Type 0} (y : X) (ys : List X) → Contains (y ∷ ys) y
here {X = X} y ys = (zero, omega arith, refl)

module _ {A : Type 0} where
  -- each entry comes before those behind it
  unfoldable pub Ascends : List (Entry A) → Type 0
  Ascends [] = Unit {0}
  Ascends (e ∷ es) = ((x : Entry A) → Contains es x → key_of_entry e ≤ key_of_entry x) × Ascends es

  pub ascends_push : (es : List (Entry A)) (e : Entry A) → Ascends es → ((x : Entry A) → Contains es x → key_of_entry x ≤ key_of_entry e) → Ascends (es ++ e ∷ [])
  unfolding Ascends
  ascends_push [] e rises low = ((λ x c. absurd (omega (arith, c.1))), tt)
  ascends_push (d ∷ es) e rises low = (
    (λ x c. ⊎_elim (λ behind. rises.0 x behind) (λ same. subst (λ (y : Entry A). key_of_entry d ≤ key_of_entry y) same (low d (here d es))) (Contains-push_cases es e x c)),
    ascends_push es e rises.1 (λ x c. low x (later d es x c)),
  )

  abbrev pub is_id : ℕ → Entry A → ℕ
  is_id q e = cond (e.id == q) 1 0

  -- no id stands in it twice
  abbrev pub OnceIds : List (Entry A) → Type 0
  OnceIds es = (q : ℕ) → sum_by (is_id q) es ≤ 1

  one_id : (e : Entry A) (q : ℕ) → e.id ≡ q → is_id q e ≡ 1
  one_id e q same = grind (arith, common_steps)

  count_has : (es : List (Entry A)) (x : Entry A) → Contains es x → 1 ≤ sum_by (is_id x.id) es
  count_has [] x c = absurd (omega (arith, c.1))
  count_has (e ∷ es) x c =
      ⊎_elim
      (λ same. omega (arith, sum_by-cons (is_id x.id) e es, one_id e x.id (ap (λ (y : Entry A). y.id) same)))
      (λ behind. omega (arith, sum_by-cons (is_id x.id) e es, count_has es x behind))
      (first_or_later e es x c)

  once_apart : (e : Entry A) (es : List (Entry A)) (x : Entry A) → OnceIds (e ∷ es) → Contains es x → x.id ≢ e.id
  once_apart e es x once c same =
      let most = once x.id in
      omega (arith, most, sum_by-cons (is_id x.id) e es, one_id e x.id (sym same), count_has es x c)

  once_rest : (e : Entry A) (es : List (Entry A)) → OnceIds (e ∷ es) → OnceIds es
  once_rest e es once q = let most = once q in omega (arith, most, sum_by-cons (is_id q) e es)

  pub rest_order : (es : List (Entry A)) (xs : List (ℕ × Timer A)) → T (is_sorted nat_cmp xs)
      → ((e : Entry A) → Contains es e → find nat_cmp e.value.1.order xs ≡ Some (timer_of_entry e))
      → ((k : ℕ) (t : Timer A) → find nat_cmp k xs ≡ Some t → (e : Entry A) × Contains es e × (e.value.1.order ≡ k) × (timer_of_entry e ≡ t))
      → ((k l : ℕ) (t u : Timer A) → find nat_cmp k xs ≡ Some t → find nat_cmp l xs ≡ Some u → t.id ≡ u.id → k ≡ l)
      → OnceIds es → Ascends es → ((e : Entry A) → Contains es e → e.value.1.order < 18446744073709551616)
      → map timer_of_entry es ≡ by_due (values xs)
  unfolding Ascends
  rest_order [] [] sorted each all ids once rises fits = refl
  rest_order [] (x ∷ xs) sorted each all ids once rises fits =
      let r = all x.0 x.1 (find_here x xs x.0 refl) in
      absurd (omega (arith, r.1.1))
  rest_order (e ∷ es) xs sorted each all ids once rises fits =
      let q : Timer A → Bool = λ t. not (t.id == e.id) in
      let rest : List (ℕ × Timer A) = filter (λ (x : ℕ × Timer A). q x.1) xs in
      let own : find nat_cmp e.value.1.order xs ≡ Some (timer_of_entry e) = each e (here e es) in
      let low : e.value.1.order < 18446744073709551616 = fits e (here e es) in
      let first : by_due (values xs) ≡ timer_of_entry e ∷ by_due (filter q (values xs)) =
      first_due q xs e.value.1.order (timer_of_entry e) sorted own (not_itself e.id)
      (λ n w f ne. not_equal w.id e.id (λ d. ne (ids n e.value.1.order w (timer_of_entry e) f own d)))
      (λ n w f.
      let r = all n w f in
      let due : r.0.value.1.due ≡ w.due = ap (λ (t : Timer A). t.due) r.3 in
      ⊎_elim
      (λ same. (omega (arith, due, ap (λ (y : Entry A). y.value.1.due) same), λ _. omega (arith, r.2, ap (λ (y : Entry A). y.value.1.order) same)))
      (λ behind.
      let le = rises.0 r.0 behind in
      let high = fits r.0 r.1 in
      (omega (arith, le, low, high, due), λ at. omega (arith, le, due, at, r.2)))
      (first_or_later e es r.0 r.1)) in
      let others = rest_order es rest (sorted_keep q xs sorted)
      (λ x c. keep_found q xs x.value.1.order (timer_of_entry x) sorted (each x (later e es x c)) (not_equal x.id e.id (once_apart e es x once c)))
      (λ k t f.
      let was = found_keep q xs k t sorted f in
      let r = all k t was.0 in (
        r.0,
        ⊎_elim
            (λ same. absurd (differs t.id e.id was.1 (sym (ap (λ (u : Timer A). u.id) r.3) ∙ ap (λ (y : Entry A). y.id) (sym same))))
            (λ behind. behind)
            (first_or_later e es r.0 r.1),
        r.2,
        r.3,
      ))
      (λ k l t u f g same. ids k l t u (found_keep q xs k t sorted f).0 (found_keep q xs l u sorted g).0 same)
      (once_rest e es once) rises.1 (λ x c. fits x (later e es x c)) in
      ap (λ (ts : List (Timer A)). timer_of_entry e ∷ ts) others
      ∙ ap (λ (ts : List (Timer A)). timer_of_entry e ∷ by_due ts) (values_keep q xs)
      ∙ sym first
    where
      not_itself : (a : ℕ) → not (a == a) ≡ false
      not_itself a = grind (arith, common_steps)

      not_equal : (a b : ℕ) → a ≢ b → not (a == b) ≡ true
      not_equal a b d = grind (arith, common_steps)

      differs : (a b : ℕ) → not (a == b) ≡ true → a ≢ b
      differs a b t same = grind (arith, common_steps)
