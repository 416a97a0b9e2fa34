-- Queries that wait, at the places of their numbers.
use Rattle.std.proofs.Common.{◌≡◌, ℕ, zero, suc, ◌+◌, ◌<◌, ◌≤◌, List, [], ◌∷◌, ◌++◌, length, Bool, true, false, not, cond, Option, Some, None, refl, sym, ap, ◌∙◌, arith, map, filter, get_or, set, subst, append-nil, length-append}
use Rattle.std.specs.Prelude.{◌==◌}
use Rattle.std.specs.List.{AllByRecursion}
use Rattle.std.specs.Option.{option_to_list}
use Rattle.std.proofs.lemmas.Bool.{eqb-true, eq-eqb}
use Rattle.std.proofs.lemmas.Bool.Decides.{nat_tests}
use Rattle.query_model.proofs.ListLaws.{all-implies}
use Rattle.query_timers.specs.declared.query.DelayedQuery.{DelayedQuery}
use Rattle.query_timers.specs.Numbered.{AreNumbered, waiting_in}
use Rattle.query_timers.specs.Firing.{fired_at, fires_at}
use Rattle.query_timers.specs.Seen.{WaitersSeen, has_number, with_waiter}
use Rattle.query_timers.proofs.Lists.{filter-both, filter-none, filter-not-both, filter-not-none, filter-whole}

-- other numbers
pub below_not : (n m : ℕ) → n < m → (m == n) ≡ false
below_not n m h = grind (arith, nat_tests)

pub above_not : (n m : ℕ) → m < n → (m == n) ≡ false
above_not n m h = grind (arith, nat_tests)

numbers_from : (number : ℕ) (slots : List (Option DelayedQuery)) → AreNumbered number slots → AllByRecursion (λ (q : DelayedQuery). number ≤ q.number) (waiting_in slots)
numbers_from number [] h = tt
numbers_from number (None ∷ slots) h =
    all-implies (λ (q : DelayedQuery). number + 1 ≤ q.number) (λ (q : DelayedQuery). number ≤ q.number) (λ q k. omega arith) (waiting_in slots) (numbers_from (number + 1) slots h)
numbers_from number (Some query ∷ slots) h =
    (omega (arith, h.0), all-implies (λ (q : DelayedQuery). number + 1 ≤ q.number) (λ (q : DelayedQuery). number ≤ q.number) (λ q k. omega arith) (waiting_in slots) (numbers_from (number + 1) slots h.1))

-- none of those from a number on has a smaller one
none_below : (n number : ℕ) (slots : List (Option DelayedQuery)) → AreNumbered number slots → n < number → AllByRecursion (λ (q : DelayedQuery). has_number n q ≡ false) (waiting_in slots)
none_below n number slots h lt =
    all-implies (λ (q : DelayedQuery). number ≤ q.number) (λ (q : DelayedQuery). has_number n q ≡ false) (λ q k. below_not n q.number (omega arith)) (waiting_in slots) (numbers_from number slots h)

pub no_number : (n number : ℕ) (slots : List (Option DelayedQuery)) → AreNumbered number slots → n < number → filter (has_number n) (waiting_in slots) ≡ []
no_number n number slots h lt = filter-none (has_number n) (waiting_in slots) (none_below n number slots h lt)

pub all_other : (n number : ℕ) (slots : List (Option DelayedQuery)) → AreNumbered number slots → n < number → filter (λ q. not (has_number n q)) (waiting_in slots) ≡ waiting_in slots
all_other n number slots h lt = filter-whole (has_number n) (waiting_in slots) (none_below n number slots h lt)

pub at_place : (number n place : ℕ) (slots : List (Option DelayedQuery)) → AreNumbered number slots → n ≡ number + place
    → option_to_list (get_or slots place None) ≡ filter (has_number n) (waiting_in slots)
at_place number n place [] h e = refl
at_place number n zero (None ∷ slots) h e = sym (no_number n (number + 1) slots h (omega arith))
at_place number n (suc place) (None ∷ slots) h e = at_place (number + 1) n place slots h (omega arith)
at_place number n zero (Some query ∷ slots) h e =
    sym (ap (λ (b : Bool). cond b (query ∷ filter (has_number n) (waiting_in slots)) (filter (has_number n) (waiting_in slots))) (eq-eqb query.number n (omega (arith, h.0)))
    ∙ ap (λ (l : List DelayedQuery). query ∷ l) (no_number n (number + 1) slots h.1 (omega arith)))
at_place number n (suc place) (Some query ∷ slots) h e =
    at_place (number + 1) n place slots h.1 (omega arith)
    ∙ sym (ap (λ (b : Bool). cond b (query ∷ filter (has_number n) (waiting_in slots)) (filter (has_number n) (waiting_in slots))) (above_not n query.number (omega (arith, h.0))))

pub rest_at : (number n place : ℕ) (slots : List (Option DelayedQuery)) → AreNumbered number slots → n ≡ number + place
    → waiting_in (set slots place None) ≡ filter (λ q. not (has_number n q)) (waiting_in slots)
rest_at number n place [] h e = refl
rest_at number n zero (None ∷ slots) h e = sym (all_other n (number + 1) slots h (omega arith))
rest_at number n (suc place) (None ∷ slots) h e = rest_at (number + 1) n place slots h (omega arith)
rest_at number n zero (Some query ∷ slots) h e =
    sym (ap (λ (b : Bool). cond (not b) (query ∷ filter (λ q. not (has_number n q)) (waiting_in slots)) (filter (λ q. not (has_number n q)) (waiting_in slots))) (eq-eqb query.number n (omega (arith, h.0)))
    ∙ all_other n (number + 1) slots h.1 (omega arith))
rest_at number n (suc place) (Some query ∷ slots) h e =
    ap (λ (l : List DelayedQuery). query ∷ l) (rest_at (number + 1) n place slots h.1 (omega arith))
    ∙ sym (ap (λ (b : Bool). cond (not b) (query ∷ filter (λ q. not (has_number n q)) (waiting_in slots)) (filter (λ q. not (has_number n q)) (waiting_in slots))) (above_not n query.number (omega (arith, h.0))))

pub numbered_at : (number place : ℕ) (slots : List (Option DelayedQuery)) → AreNumbered number slots → AreNumbered number (set slots place None)
numbered_at number place [] h = h
numbered_at number zero (None ∷ slots) h = h
numbered_at number (suc place) (None ∷ slots) h = numbered_at (number + 1) place slots h
numbered_at number zero (Some query ∷ slots) h = h.1
numbered_at number (suc place) (Some query ∷ slots) h = (h.0, numbered_at (number + 1) place slots h.1)

-- one more at the end
pub numbered_none : (number : ℕ) (slots : List (Option DelayedQuery)) → AreNumbered number slots → AreNumbered number (slots ++ None ∷ [])
numbered_none number [] h = tt
numbered_none number (None ∷ slots) h = numbered_none (number + 1) slots h
numbered_none number (Some query ∷ slots) h = (h.0, numbered_none (number + 1) slots h.1)

pub numbered_some : (number : ℕ) (slots : List (Option DelayedQuery)) (query : DelayedQuery) → AreNumbered number slots → query.number ≡ number + length slots
    → AreNumbered number (slots ++ Some query ∷ [])
numbered_some number [] query h e = (e ∙ omega arith, tt)
numbered_some number (None ∷ slots) query h e = numbered_some (number + 1) slots query h (omega arith)
numbered_some number (Some other ∷ slots) query h e = (h.0, numbered_some (number + 1) slots query h.1 (omega arith))

pub waiting_none : (slots : List (Option DelayedQuery)) → waiting_in (slots ++ None ∷ []) ≡ waiting_in slots
waiting_none [] = refl
waiting_none (None ∷ slots) = waiting_none slots
waiting_none (Some query ∷ slots) = ap (λ (l : List DelayedQuery). query ∷ l) (waiting_none slots)

pub waiting_some : (slots : List (Option DelayedQuery)) (query : DelayedQuery) → waiting_in (slots ++ Some query ∷ []) ≡ waiting_in slots ++ query ∷ []
waiting_some [] query = refl
waiting_some (None ∷ slots) query = waiting_some slots query
waiting_some (Some other ∷ slots) query = ap (λ (l : List DelayedQuery). other ∷ l) (waiting_some slots query)

pub fewer_wait : (slots : List (Option DelayedQuery)) → length (waiting_in slots) ≤ length slots
fewer_wait [] = omega arith
fewer_wait (None ∷ slots) = omega (arith, fewer_wait slots)
fewer_wait (Some query ∷ slots) = omega (arith, fewer_wait slots)

-- the slots with one more that doesn't wait
pub one_skipped : (old new : List (Option DelayedQuery)) → new ≡ old ++ None ∷ [] → AreNumbered 1 old
    → AreNumbered 1 new × (waiting_in new ≡ waiting_in old) × (length new ≡ length old + 1)
one_skipped old new is h = (
  subst (λ (l : List (Option DelayedQuery)). AreNumbered 1 l) (sym is) (numbered_none 1 old h),
  ap waiting_in is ∙ waiting_none old,
  ap (λ (l : List (Option DelayedQuery)). length l) is ∙ length-append old (None ∷ []),
)

-- the slots with one more that waits
pub one_waits : (old new : List (Option DelayedQuery)) (query : DelayedQuery) → new ≡ old ++ Some query ∷ [] → AreNumbered 1 old → query.number ≡ length old + 1
    → AreNumbered 1 new × (waiting_in new ≡ waiting_in old ++ query ∷ []) × (length new ≡ length old + 1)
one_waits old new query is h e = (
  subst (λ (l : List (Option DelayedQuery)). AreNumbered 1 l) (sym is) (numbered_some 1 old query h (e ∙ omega arith)),
  ap waiting_in is ∙ waiting_some old query,
  ap (λ (l : List (Option DelayedQuery)). length l) is ∙ length-append old (Some query ∷ []),
)

-- those with a number, where the due tick that was found isn't this one
none_due : (tick : ℕ) (queries : List DelayedQuery) (due : Option ℕ) → option_to_list due ≡ map (λ (q : DelayedQuery). q.due) queries → (due ≡ Some tick → ⊥)
    → filter (λ (q : DelayedQuery). q.due == tick) queries ≡ []
none_due tick [] due is differs = refl
none_due tick (q ∷ queries) None is differs = absurd cc
none_due tick (q ∷ (r ∷ queries)) (Some d) is differs = absurd cc
none_due tick (q ∷ []) (Some d) is differs =
    let same : d ≡ q.due = cc in
    ap (λ (b : Bool). cond b (q ∷ []) []) (not_same q.due tick (λ e. differs (ap Some (same ∙ e))))
  where
    not_same : (m n : ℕ) → (m ≡ n → ⊥) → (m == n) ≡ false
    not_same m n h = by (m == n) refl
      where
        by : (b : Bool) → (m == n) ≡ b → b ≡ false
        by true e = absurd (h (eqb-true m n e))
        by false e = refl

-- and where it is
all_due : (tick : ℕ) (queries : List DelayedQuery) (due : Option ℕ) → option_to_list due ≡ map (λ (q : DelayedQuery). q.due) queries → due ≡ Some tick
    → AllByRecursion (λ (q : DelayedQuery). (q.due == tick) ≡ true) queries
all_due tick [] due is found = tt
all_due tick (q ∷ queries) None is found = absurd cc
all_due tick (q ∷ (r ∷ queries)) (Some d) is found = absurd cc
all_due tick (q ∷ []) (Some d) is found =
    let same : d ≡ q.due = cc in
    let at : d ≡ tick = cc in
    (eq-eqb q.due tick (sym same ∙ at), tt)

-- where nobody with the number is due, nothing fires
pub nothing_fires : (number tick : ℕ) (w : WaitersSeen) (due : Option ℕ) → option_to_list due ≡ map (λ (q : DelayedQuery). q.due) (filter (has_number number) w.waiting)
    → (due ≡ Some tick → ⊥) → w ≡ fired_at number tick w
nothing_fires number tick w due is differs =
    let none : filter (fires_at number tick) w.waiting ≡ [] =
    filter-both (has_number number) (λ (q : DelayedQuery). q.due == tick) w.waiting ∙ none_due tick (filter (has_number number) w.waiting) due is differs in
    sym (ap (λ (l : List DelayedQuery). record w { waiting = l; fired = w.fired ++ filter (fires_at number tick) w.waiting }) (filter-not-none (fires_at number tick) w.waiting none)
    ∙ (ap (λ (l : List DelayedQuery). record w { fired = w.fired ++ l }) none ∙ ap (λ (l : List DelayedQuery). record w { fired = l }) (append-nil w.fired)))

-- where the one with the number is due, it fires
pub one_fires : (number tick : ℕ) (w : WaitersSeen) (due : Option ℕ) (taken : List DelayedQuery) → option_to_list due ≡ map (λ (q : DelayedQuery). q.due) (filter (has_number number) w.waiting)
    → due ≡ Some tick → taken ≡ filter (has_number number) w.waiting
    → record w { waiting = filter (λ q. not (has_number number q)) w.waiting; fired = w.fired ++ taken } ≡ fired_at number tick w
one_fires number tick w due taken is found those =
    let all = all_due tick (filter (has_number number) w.waiting) due is found in
    let fires : filter (fires_at number tick) w.waiting ≡ filter (has_number number) w.waiting =
    filter-both (has_number number) (λ (q : DelayedQuery). q.due == tick) w.waiting ∙ all_pass (λ (q : DelayedQuery). q.due == tick) (filter (has_number number) w.waiting) all in
    let stay : filter (λ q. not (fires_at number tick q)) w.waiting ≡ filter (λ q. not (has_number number q)) w.waiting =
    filter-not-both (has_number number) (λ (q : DelayedQuery). q.due == tick) w.waiting all in
    ap (λ (l : List DelayedQuery). record w { waiting = l; fired = w.fired ++ taken }) (sym stay)
    ∙ ap (λ (l : List DelayedQuery). record w { waiting = filter (λ q. not (fires_at number tick q)) w.waiting; fired = w.fired ++ l }) (those ∙ sym fires)
  where
    all_pass : (p : DelayedQuery → Bool) (xs : List DelayedQuery) → AllByRecursion (λ x. p x ≡ true) xs → filter p xs ≡ xs
    all_pass p [] h = refl
    all_pass p (x ∷ xs) h = ap (λ (b : Bool). cond b (x ∷ filter p xs) (filter p xs)) h.0 ∙ ap (λ (l : List DelayedQuery). x ∷ l) (all_pass p xs h.1)

-- what contracts see of slots and of those that have fired
abbrev pub seen_of : List (Option DelayedQuery) → List DelayedQuery → WaitersSeen
seen_of slots fired = record { asked = length slots; waiting = waiting_in slots; fired = fired }

pub seen_skipped : (old new : List (Option DelayedQuery)) (fired : List DelayedQuery) (w : WaitersSeen) → seen_of old fired ≡ w
    → waiting_in new ≡ waiting_in old → length new ≡ length old + 1 → seen_of new fired ≡ record w { asked = w.asked + 1 }
seen_skipped old new fired w is waiting many =
    ap (λ (l : List DelayedQuery). record { asked = length new; waiting = l; fired = fired }) waiting
    ∙ (ap (λ (n : ℕ). record { asked = n; waiting = waiting_in old; fired = fired }) many ∙ ap (λ (v : WaitersSeen). record v { asked = v.asked + 1 }) is)

pub seen_waits : (old new : List (Option DelayedQuery)) (query : DelayedQuery) (fired more : List DelayedQuery) (w : WaitersSeen) → seen_of old fired ≡ w → more ≡ fired
    → waiting_in new ≡ waiting_in old ++ query ∷ [] → length new ≡ length old + 1 → seen_of new more ≡ with_waiter w query
seen_waits old new query fired more w is same waiting many =
    ap (λ (l : List DelayedQuery). record { asked = length new; waiting = l; fired = more }) waiting
    ∙ (ap (λ (n : ℕ). record { asked = n; waiting = waiting_in old ++ query ∷ []; fired = more }) many
    ∙ (ap (λ (l : List DelayedQuery). record { asked = length old + 1; waiting = waiting_in old ++ query ∷ []; fired = l }) same
    ∙ ap (λ (v : WaitersSeen). with_waiter v query) is))

pub seen_fires : (number tick : ℕ) (old new : List (Option DelayedQuery)) (due : Option ℕ) (taken fired more : List DelayedQuery) (w : WaitersSeen) → seen_of old fired ≡ w
    → option_to_list due ≡ map (λ (q : DelayedQuery). q.due) (filter (has_number number) (waiting_in old)) → due ≡ Some tick
    → taken ≡ filter (has_number number) (waiting_in old) → waiting_in new ≡ filter (λ q. not (has_number number q)) (waiting_in old)
    → length new ≡ length old → more ≡ fired ++ taken → seen_of new more ≡ fired_at number tick w
seen_fires number tick old new due taken fired more w is found at those rest many pushed =
    ap (λ (l : List DelayedQuery). record { asked = length new; waiting = l; fired = more }) rest
    ∙ (ap (λ (n : ℕ). record { asked = n; waiting = filter (λ q. not (has_number number q)) (waiting_in old); fired = more }) many
    ∙ (ap (λ (l : List DelayedQuery). record { asked = length old; waiting = filter (λ q. not (has_number number q)) (waiting_in old); fired = l }) pushed
    ∙ (one_fires number tick (seen_of old fired) due taken found at those ∙ ap (λ (v : WaitersSeen). fired_at number tick v) is)))
