-- Timers by due tick: which one comes first.
use Rattle.std.proofs.Common.{◌≡◌, ◌≢◌, ℕ, ◌+◌, ◌<◌, ◌≤◌, Bool, true, false, cond, T, List, [], ◌∷◌, length, Some, refl, sym, ap, ◌∙◌, subst, arith, ⊎_elim}
use Rattle.std.specs.FinMap.Entries.{find, is_sorted}
use Rattle.std.specs.List.{filter}
use Rattle.std.specs.Ordering.{nat_cmp}
use Rattle.std.proofs.lemmas.Bool.{cases_lt}
use Rattle.std.proofs.lemmas.Grind.{common_steps}
use Rattle.std.proofs.lemmas.Option.{none-some}
use Rattle.tick_wheel.specs.declared.timer.Timer.{Timer}
use Rattle.tick_wheel.specs.TimerList.{insert_due, by_due}
use Rattle.tick_wheel.proofs.InOrder.{values, find_here, find_cases, find_later, sorted_tail, sorted_later, filter_all}

module _ {A : Type 0} where
  insert_low : (t u : Timer A) (us : List (Timer A)) → t.due ≤ u.due → insert_due t (u ∷ us) ≡ t ∷ u ∷ us
  insert_low t u us low = grind (arith, common_steps)

  insert_high : (t u : Timer A) (us : List (Timer A)) → u.due < t.due → insert_due t (u ∷ us) ≡ u ∷ insert_due t us
  insert_high t u us low = grind (arith, common_steps)

  -- the first of a list in order
  first_is : Timer A → List (Timer A) → Type 0
  first_is t [] = Unit {0}
  first_is t (u ∷ us) = t.due ≤ u.due

  insert_front : (t : Timer A) (us : List (Timer A)) → first_is t us → insert_due t us ≡ t ∷ us
  unfolding first_is
  insert_front t [] low = refl
  insert_front t (u ∷ us) low = insert_low t u us low

  first_insert : (t u : Timer A) (us : List (Timer A)) → t.due ≤ u.due → first_is t us → first_is t (insert_due u us)
  unfolding first_is
  first_insert t u [] low rest = low
  first_insert t u (w ∷ us) low rest =
      ⊎_elim
      (λ high. subst (λ (xs : List (Timer A)). first_is t xs) (sym (insert_high u w us high)) rest)
      (λ le. subst (λ (xs : List (Timer A)). first_is t xs) (sym (insert_low u w us le)) low)
      (cases_lt w.due u.due)

  first_all : (t : Timer A) (es : List (ℕ × Timer A)) → T (is_sorted nat_cmp es) → ((n : ℕ) (w : Timer A) → find nat_cmp n es ≡ Some w → t.due ≤ w.due)
      → first_is t (by_due (values es))
  unfolding first_is
  first_all t [] s low = tt
  first_all t (e ∷ es) s low =
      first_insert t e.1 (by_due (values es)) (low e.0 e.1 (find_here e es e.0 refl)) (first_all t es (sorted_tail e es s) (λ n w f. low n w (find_later e es n w s f)))

  -- the least due tick, and the least number among those, comes first
  pub first_due : (q : Timer A → Bool) (es : List (ℕ × Timer A)) (k : ℕ) (t : Timer A) → T (is_sorted nat_cmp es) → find nat_cmp k es ≡ Some t
      → q t ≡ false → ((n : ℕ) (w : Timer A) → find nat_cmp n es ≡ Some w → n ≢ k → q w ≡ true)
      → ((n : ℕ) (w : Timer A) → find nat_cmp n es ≡ Some w → (t.due ≤ w.due) × (t.due ≡ w.due → k ≤ n))
      → by_due (values es) ≡ t ∷ by_due (filter q (values es))
  first_due q [] k t s is leaves others least = absurd (none-some t is)
  first_due q (e ∷ es) k t s is leaves others least =
      ⊎_elim
      (λ a.
      let at : t ≡ e.1 = a.1 in
      let rest : filter q (values es) ≡ values es = filter_all q es (sorted_tail e es s)
      (λ n w f. others n w (find_later e es n w s f) (λ same. omega (arith, sorted_later e es n w s f, same, a.0))) in
      ap (λ (u : Timer A). insert_due u (by_due (values es))) (sym at)
      ∙ insert_front t (by_due (values es)) (first_all t es (sorted_tail e es s) (λ n w f. (least n w (find_later e es n w s f)).0))
      ∙ ap (λ (us : List (Timer A)). t ∷ by_due us) (sym rest)
      ∙ ap (λ b. t ∷ by_due (cond b (e.1 ∷ filter q (values es)) (filter q (values es)))) (sym (ap q (sym at) ∙ leaves)))
      (λ a.
      let l = least e.0 e.1 (find_here e es e.0 refl) in
      let low : e.0 < k = sorted_later e es k t s a.1 in
      let less : t.due < e.1.due = strictly t.due e.1.due l.0 (λ same. omega (arith, l.1 same, low)) in
      let stays : q e.1 ≡ true = others e.0 e.1 (find_here e es e.0 refl) (λ same. omega (arith, low, same)) in
      let rest = first_due q es k t (sorted_tail e es s) a.1 leaves (λ n w f. others n w (find_later e es n w s f)) (λ n w f. least n w (find_later e es n w s f)) in
      ap (insert_due e.1) rest ∙ insert_high e.1 t (by_due (filter q (values es))) less
      ∙ ap (λ b. t ∷ by_due (cond b (e.1 ∷ filter q (values es)) (filter q (values es)))) (sym stays))
      (find_cases e es k t is)
    where
      strictly : (a b : ℕ) → a ≤ b → (a ≡ b → ⊥) → a < b
      strictly a b le ne = omega (arith, le, ne)

  pub length-by_due : (ts : List (Timer A)) → length (by_due ts) ≡ length ts
  length-by_due [] = refl
  length-by_due (t ∷ ts) = length-insert_due t (by_due ts) ∙ ap (λ n. n + 1) (length-by_due ts) ∙ (omega arith)
    where
      length-insert_due : (t : Timer A) (us : List (Timer A)) → length (insert_due t us) ≡ length us + 1
      length-insert_due t [] = omega arith
      length-insert_due t (u ∷ us) =
          ⊎_elim
          (λ high. ap (λ (xs : List (Timer A)). length xs) (insert_high t u us high) ∙ omega (arith, length-insert_due t us))
          (λ le. ap (λ (xs : List (Timer A)). length xs) (insert_low t u us le) ∙ omega arith)
          (cases_lt u.due t.due)
