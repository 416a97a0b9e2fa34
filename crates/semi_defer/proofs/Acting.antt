-- Each step of an adder and of a holder keeps the deferral rule.
use Rattle.std.proofs.Common.{◌≡◌, ℕ, ◌+◌, ◌<◌, ◌^◌, eqb, List, [], ◌∷◌, Option, Some, None, refl, sym, ap, ◌∙◌, subst, arith}
use prog.Atomic.{either}
use Rattle.atomic_table.specs.Table.{keeps, takes, gives, Allows}
use Rattle.atomic_table.proofs.Lists.{exchanged}
use Rattle.fan_base.specs.declared.number.ExecId.{ExecId}
use Rattle.semi_defer.specs.declared.state.Chosen.{Chosen}
use Rattle.semi_defer.specs.declared.state.Chosen.TheVariants as chosen
use Rattle.semi_defer.specs.declared.view.Adding.TheVariants as adding
use Rattle.semi_defer.specs.declared.view.Choosing.TheVariants as choosing
use Rattle.semi_defer.specs.State.{code_of, word_of}
use Rattle.semi_defer.specs.History.{state_of_choice}
use Rattle.semi_defer.specs.Rule.{DeferHolds}
use Rattle.semi_defer.specs.Steps.{Standing, adder_at, holder_at, slot_with, takes_slot, adds, chooses, gives_back}
use Rattle.semi_defer.proofs.Sides.{AdderOwes, HolderOwes, adder_steps, holder_steps}

-- the word of a choice is that of its state, and isn't that of Empty
pub choice_word : (what : Chosen) → code_of (state_of_choice what) ≡ word_of what
choice_word (chosen.Executor exec) = refl
choice_word chosen.Detached = refl

pub chosen_above : (what : Chosen) → word_of what ≡ 0 → ⊥
chosen_above (chosen.Executor exec) e = omega (arith, e)
chosen_above chosen.Detached e = cc

choice_stays : (what : Chosen) → either (eqb (code_of (state_of_choice what)) 0) 1 (code_of (state_of_choice what)) ≡ code_of (state_of_choice what)
choice_stays what = exchanged (code_of (state_of_choice what)) 0 1 (λ n. n ≡ code_of (state_of_choice what)) (λ z. absurd (chosen_above what (sym (choice_word what) ∙ z))) (λ _. refl)

one_exec : (a b : ExecId) → a.0 ≡ b.0 → a ≡ b
one_exec a b e = λ k. record { 0 = e k }

one_choice : (what other : Chosen) → word_of what ≡ word_of other → what ≡ other
one_choice (chosen.Executor exec) (chosen.Executor other) e = ap chosen.Executor (one_exec exec other (omega (arith, e)))
one_choice (chosen.Executor exec) chosen.Detached e = absurd (omega (arith, e))
one_choice chosen.Detached (chosen.Executor other) e = absurd (omega (arith, e))
one_choice chosen.Detached chosen.Detached e = refl

module _ {J : Type 0} where
  takes_owes : AdderOwes [] (λ n. n) (takes_slot (adder_at {J = J} adding.Ready [])) adding.Ready
  takes_owes choosing.Ready fit = (adding.Holding, takes 0 None, refl, refl, refl, record { acts = tt; range = tt }, refl)
  takes_owes (choosing.Taking what job) fit = absurd fit.acts
  takes_owes (choosing.Chose what got) fit = (adding.Holding, takes 0 None, refl, refl, refl, record { acts = fit.acts; range = fit.range }, refl)

  -- an adder takes the slot
  pub takes_allowed : (slots id : ℕ) (me : Standing J) → me ≡ adder_at adding.Ready [] → Allows DeferHolds slots id me 0 (λ n. n) (takes_slot me)
  takes_allowed slots id me e = subst (λ (m : Standing J). Allows DeferHolds slots id m 0 (λ n. n) (takes_slot m)) (sym e) (adder_steps [] (λ n. n) (takes_slot (adder_at adding.Ready [])) slots id adding.Ready takes_owes)

  -- the job in a slot
  job_or : J → List (ℕ × Option J) → J
  job_or d [] = d
  job_or d ((k, None) ∷ xs) = d
  job_or d ((k, Some job) ∷ xs) = job

  module _ (job : J) where
    pub same_job : (other : J) → slot_with (Some job) ≡ slot_with (Some other) → job ≡ other
    unfolding job_or
    same_job other e = ap (job_or job) e

    adds_owes : AdderOwes (slot_with (Some job)) (λ n. either (eqb n 0) 1 n) (adds (adder_at adding.Holding (slot_with (Some job)))) adding.Holding
    adds_owes choosing.Ready fit = (adding.Kept job, gives, tt, refl, refl, record { acts = tt; range = tt }, λ x e. ((λ _. ap (λ (j : J). adder_at (adding.Kept j) []) (same_job x e)), (λ n. absurd (n refl))))
    adds_owes (choosing.Taking what got) fit = absurd fit.acts
    adds_owes (choosing.Chose what got) fit = (
      adding.Returning job what,
      keeps,
      tt,
      choice_stays what,
      refl,
      record { acts = (refl, fit.acts); range = fit.range },
      λ x e. (
        (λ z. absurd (chosen_above what (sym (choice_word what) ∙ z))),
        (λ _. (what, choice_word what, subst (λ (n : ℕ). n < 2 ^ 32 + 3) (sym (choice_word what)) fit.range, ap (λ (j : J). adder_at (adding.Returning j what) (slot_with (Some job))) (same_job x e))),
      ),
    )

    -- an adder adds its job, or sees what was chosen
    pub adds_allowed : (slots id old new : ℕ) (me : Standing J) → old ≡ 0 → new ≡ 1 → me ≡ adder_at adding.Holding (slot_with (Some job)) → Allows DeferHolds slots id me 0 (λ n. either (eqb n old) new n) (adds me)
    adds_allowed slots id old new me a b e = subst (λ (z : (ℕ × ℕ) × Standing J). Allows DeferHolds slots id z.1 0 (λ n. either (eqb n z.0.0) z.0.1 n) (adds z.1)) (λ k. ((sym a k, sym b k), sym e k))
        (adder_steps (slot_with (Some job)) (λ n. either (eqb n 0) 1 n) (adds (adder_at adding.Holding (slot_with (Some job)))) slots id adding.Holding adds_owes)

    returns_owes : (what : Chosen) → AdderOwes (slot_with None) (λ n. n) (gives_back (adder_at (adding.Returning job what) (slot_with None))) (adding.Returning job what)
    returns_owes what choosing.Ready fit = absurd fit.acts
    returns_owes what (choosing.Taking found got) fit = absurd fit.acts
    returns_owes what (choosing.Chose found got) fit = (adding.Late job what, gives, tt, refl, refl, record { acts = fit.acts; range = fit.range }, refl)

    -- an adder that came late gives the slot back
    pub returns_allowed : (slots id : ℕ) (what : Chosen) (me : Standing J) → me ≡ adder_at (adding.Returning job what) (slot_with None) → Allows DeferHolds slots id me 0 (λ n. n) (gives_back me)
    returns_allowed slots id what me e = subst (λ (m : Standing J). Allows DeferHolds slots id m 0 (λ n. n) (gives_back m)) (sym e)
        (adder_steps (slot_with None) (λ n. n) (gives_back (adder_at (adding.Returning job what) (slot_with None))) slots id (adding.Returning job what) (returns_owes what))

    took_owes : (what : Chosen) → HolderOwes (slot_with None) (λ n. n) (gives_back (holder_at (choosing.Taking what job) (slot_with None))) (choosing.Taking what job)
    took_owes what adding.Ready fit = absurd fit.acts
    took_owes what adding.Holding fit = absurd fit.acts
    took_owes what (adding.Kept kept) fit = (choosing.Chose what (Some job), gives, tt, refl, refl, record { acts = ap (λ (j : J). Some j) fit.acts; range = fit.range }, refl)
    took_owes what (adding.Returning kept found) fit = absurd fit.acts
    took_owes what (adding.Late kept found) fit = absurd fit.acts

    -- a holder that took the job gives the slot back
    pub took_allowed : (slots id : ℕ) (what : Chosen) (me : Standing J) → me ≡ holder_at (choosing.Taking what job) (slot_with None) → Allows DeferHolds slots id me 0 (λ n. n) (gives_back me)
    took_allowed slots id what me e = subst (λ (m : Standing J). Allows DeferHolds slots id m 0 (λ n. n) (gives_back m)) (sym e)
        (holder_steps (slot_with None) (λ n. n) (gives_back (holder_at (choosing.Taking what job) (slot_with None))) slots id (choosing.Taking what job) (took_owes what))

  chooses_owes : (what : Chosen) → word_of what < 2 ^ 32 + 3 → HolderOwes [] (λ _. word_of what) (λ found after. chooses (holder_at {J = J} choosing.Ready []) (word_of what) found after) choosing.Ready
  chooses_owes what small adding.Ready fit = (choosing.Chose what None, keeps, tt, sym (choice_word what), refl, record { acts = refl; range = small }, λ x e. ((λ z. absurd (cc)), (λ _. (refl, ap (λ (c : Chosen). holder_at (choosing.Chose c None) []) (one_choice what x e)))))
  chooses_owes what small adding.Holding fit = (choosing.Chose what None, keeps, tt, sym (choice_word what), refl, record { acts = refl; range = small }, λ x e. ((λ z. absurd (cc)), (λ _. (refl, ap (λ (c : Chosen). holder_at (choosing.Chose c None) []) (one_choice what x e)))))
  chooses_owes what small (adding.Kept job) fit =
      (choosing.Taking what job, takes 0 (Some job), refl, sym (choice_word what), refl, record { acts = refl; range = small }, λ x e. ((λ _. (job, ap (λ (c : Chosen). holder_at (choosing.Taking c job) (slot_with (Some job))) (one_choice what x e))), (λ n. absurd (n refl))))
  chooses_owes what small (adding.Returning job found) fit = absurd fit.acts
  chooses_owes what small (adding.Late job found) fit = absurd fit.acts

  -- a holder chooses
  pub chooses_allowed : (slots id new : ℕ) (what : Chosen) (me : Standing J) → new ≡ word_of what → word_of what < 2 ^ 32 + 3 → me ≡ holder_at choosing.Ready [] → Allows DeferHolds slots id me 0 (λ _. new) (λ found after. chooses me new found after)
  chooses_allowed slots id new what me n small e = subst (λ (z : ℕ × Standing J). Allows DeferHolds slots id z.1 0 (λ _. z.0) (λ found after. chooses z.1 z.0 found after)) (λ k. (sym n k, sym e k))
      (holder_steps [] (λ _. word_of what) (λ found after. chooses (holder_at choosing.Ready []) (word_of what) found after) slots id choosing.Ready (chooses_owes what small))
