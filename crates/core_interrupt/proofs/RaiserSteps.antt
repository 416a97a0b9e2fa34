-- Each step of a raiser keeps the interrupt rule.
use Rattle.std.specs.Bool.{OnTrue, OnFalse}
use Rattle.atomic_table.specs.Seated.{TableId}
use Rattle.atomic_table.specs.declared.shared.Seat.{Seat}
use Rattle.core_interrupt.proofs.Slots.{on_true, on_false}
use Rattle.std.proofs.Common.{◌≡◌, ◌≢◌, ℕ, eqb, List, [], ◌∷◌, ◌++◌, Option, Some, None, refl, sym, ap, ◌∙◌, subst}
use mathlib.Core.Option as maybe
use mathlib.Core.Option.{some-injective}
use prog.Atomic.{either}
use Rattle.atomic_table.specs.Table.{Step, step, keeps, takes, gives, chain, Allows}
use Rattle.core_interrupt.specs.declared.state.State.{State}
use Rattle.core_interrupt.specs.declared.state.State.TheVariants as state
use Rattle.core_interrupt.specs.declared.history.RaiseEvent.{RaiseEvent}
use Rattle.core_interrupt.specs.declared.history.RaiseEvent.TheVariants as raised
use Rattle.core_interrupt.specs.declared.history.HearEvent.TheVariants as heard
use Rattle.core_interrupt.specs.declared.view.HearerEnd.{HearerEnd}
use Rattle.core_interrupt.specs.declared.view.HearerEnd.TheVariants as end
use Rattle.core_interrupt.specs.declared.view.Item.TheVariants as item
use Rattle.core_interrupt.specs.declared.view.Hearing.{Hearing}
use Rattle.core_interrupt.specs.declared.view.Hearing.TheVariants as hearing
use Rattle.core_interrupt.specs.declared.view.Raising.{Raising}
use Rattle.core_interrupt.specs.declared.view.Raising.TheVariants as raising
use Rattle.core_interrupt.specs.declared.view.View.{View}
use Rattle.core_interrupt.specs.declared.view.View.TheVariants as view
use Rattle.core_interrupt.specs.State.{code_of}
use Rattle.core_interrupt.specs.History.{state_from, handler_in, OnlyGone, AllCameBack, FirstKept, FirstCalled, SidesAgree, InterruptHistory}
use Rattle.core_interrupt.specs.Views.{Held, hears_at_end, hears_of, raised_in, HasCalled, Fit}
use Rattle.core_interrupt.specs.Rule.{homes_of, InterruptHolds}
use Rattle.core_interrupt.specs.Steps.{Standing, Sits, raiser_at, empty_slot, with_handler, with_object, gives_back, TriesAt, tries, places, tries_again}
use Rattle.core_interrupt.proofs.Merging.{raiser_acts}
use Rattle.core_interrupt.proofs.Sides.{RaiserOwes, raiser_steps}

module _ {H I : Type 0} where
  -- one raise more, whose object came back
  came_back : (es : List (RaiseEvent H I)) (i : I) (s : State) → AllCameBack es → AllCameBack (es ++ raised.Late i s ∷ [])
  came_back [] i s all = tt
  came_back (raised.Kept j ∷ es) i s all = absurd all
  came_back (raised.Called h j ∷ es) i s all = absurd all
  came_back (raised.Late j t ∷ es) i s all = came_back es i s all
  came_back (raised.Gone j ∷ es) i s all = came_back es i s all

  gone_back : (es : List (RaiseEvent H I)) (i : I) → AllCameBack es → AllCameBack (es ++ raised.Gone i ∷ [])
  gone_back [] i all = tt
  gone_back (raised.Kept j ∷ es) i all = absurd all
  gone_back (raised.Called h j ∷ es) i all = absurd all
  gone_back (raised.Late j t ∷ es) i all = gone_back es i all
  gone_back (raised.Gone j ∷ es) i all = gone_back es i all

  gone_more : (es : List (RaiseEvent H I)) (i : I) → OnlyGone es → OnlyGone (es ++ raised.Gone i ∷ [])
  gone_more [] i all = tt
  gone_more (raised.Kept j ∷ es) i all = absurd all
  gone_more (raised.Called h j ∷ es) i all = absurd all
  gone_more (raised.Late j t ∷ es) i all = absurd all
  gone_more (raised.Gone j ∷ es) i all = gone_more es i all

  kept_gone : (object : I) (es : List (RaiseEvent H I)) (i : I) → FirstKept object es → FirstKept object (es ++ raised.Gone i ∷ [])
  kept_gone object [] i kept = absurd kept
  kept_gone object (raised.Kept j ∷ es) i kept = (kept.0, gone_back es i kept.1)
  kept_gone object (raised.Called h j ∷ es) i kept = absurd kept
  kept_gone object (raised.Late j t ∷ es) i kept = absurd kept
  kept_gone object (raised.Gone j ∷ es) i kept = absurd kept

  called_gone : (handler : H) (es : List (RaiseEvent H I)) (i : I) → FirstCalled handler es → FirstCalled handler (es ++ raised.Gone i ∷ [])
  called_gone handler [] i called = absurd called
  called_gone handler (raised.Kept j ∷ es) i called = absurd called
  called_gone handler (raised.Called h j ∷ es) i called = (called.0, gone_back es i called.1)
  called_gone handler (raised.Late j t ∷ es) i called = absurd called
  called_gone handler (raised.Gone j ∷ es) i called = absurd called

  -- beside a hearer that has ended
  end_gone : (e : HearerEnd H I) (es : List (RaiseEvent H I)) (i : I) → SidesAgree (hears_at_end e) es → SidesAgree (hears_at_end e) (es ++ raised.Gone i ∷ [])
  end_gone end.Unset es i agree = gone_more es i agree
  end_gone (end.ObjectBack j) es i agree = kept_gone j es i agree
  end_gone (end.HandlerBack h) es i agree = (agree.0, gone_more es i agree.1)
  end_gone (end.WasCalled h) es i agree = called_gone h es i agree
  end_gone (end.HasCalled h j) es i agree = kept_gone j es i agree

  pub end_state : (e : HearerEnd H I) (es : List (RaiseEvent H I)) → state_from (hears_at_end e) es ≡ state.Ended
  end_state end.Unset es = refl
  end_state (end.ObjectBack j) es = refl
  end_state (end.HandlerBack h) es = refl
  end_state (end.WasCalled h) es = refl
  end_state (end.HasCalled h j) es = refl

  object_or : I → maybe.Option (Held H I) → I
  object_or d maybe.none = d
  object_or d (maybe.some None) = d
  object_or d (maybe.some (Some (item.Handler h))) = d
  object_or d (maybe.some (Some (item.Object i))) = i

  module _ (object : I) where
    abbrev said_object : maybe.Option (Held H I)
    said_object = maybe.some (Some (item.Object object))

    same_object : (i : I) → said_object ≡ maybe.some (Some (item.Object i)) → object ≡ i
    unfolding object_or
    same_object i e = ap (object_or object) e

    abbrev Tries : List (RaiseEvent H I) → ℕ → Standing H I → Type 0
    Tries es = tries (step 2 0 1 3 said_object) (raiser_at raising.Resting es [])

    late_at : (s : State) (es : List (RaiseEvent H I)) (i : I) → said_object ≡ maybe.some (Some (item.Object i)) → raiser_at raising.Resting (es ++ raised.Late object s ∷ []) [] ≡ raiser_at raising.Resting (es ++ raised.Late i s ∷ []) []
    late_at s es i e = ap (λ (x : I). raiser_at raising.Resting (es ++ raised.Late x s ∷ []) []) (same_object i e)

    gone_at : (es : List (RaiseEvent H I)) (i : I) → said_object ≡ maybe.some (Some (item.Object i)) → raiser_at raising.Resting (es ++ raised.Gone object ∷ []) [] ≡ raiser_at raising.Resting (es ++ raised.Gone i ∷ []) []
    gone_at es i e = ap (λ (x : I). raiser_at raising.Resting (es ++ raised.Gone x ∷ []) []) (same_object i e)

    called_at : (h : H) (es : List (RaiseEvent H I)) (i : I) → said_object ≡ maybe.some (Some (item.Object i))
        → raiser_at raising.Calling (es ++ raised.Called h object ∷ []) (with_handler h []) ≡ raiser_at raising.Calling (es ++ raised.Called h i ∷ []) (with_handler h [])
    called_at h es i e = ap (λ (x : I). raiser_at raising.Calling (es ++ raised.Called h x ∷ []) (with_handler h [])) (same_object i e)

    -- a raise after the end
    tries_ended : (es : List (RaiseEvent H I)) (e : HearerEnd H I) → SidesAgree (hears_at_end e) es → InterruptHistory (hears_at_end e) es
        → SidesAgree (hears_at_end e) (es ++ raised.Gone object ∷ []) × InterruptHistory (hears_at_end e) (es ++ raised.Gone object ∷ [])
    tries_ended es e agree h = (end_gone e es object agree, raiser_acts (hears_at_end e) es (raised.Gone object) h (sym (end_state e es)) (λ _ _ _. tt))

    ended_word : (e : HearerEnd H I) (es rs : List (RaiseEvent H I)) → either (eqb (code_of (state_from (hears_at_end e) es)) 1) 3 (code_of (state_from (hears_at_end e) es)) ≡ code_of (state_from (hears_at_end e) rs)
    ended_word end.Unset es rs = refl
    ended_word (end.ObjectBack j) es rs = refl
    ended_word (end.HandlerBack h) es rs = refl
    ended_word (end.WasCalled h) es rs = refl
    ended_word (end.HasCalled h j) es rs = refl

    ended_stays : (e : HearerEnd H I) → either (eqb (code_of (state_from (hears_at_end e) [])) 0) 2 (code_of (state_from (hears_at_end e) [])) ≡ code_of (state_from (hears_at_end e) [])
    ended_stays end.Unset = refl
    ended_stays (end.ObjectBack j) = refl
    ended_stays (end.HandlerBack h) = refl
    ended_stays (end.WasCalled h) = refl
    ended_stays (end.HasCalled h j) = refl

    not_empty : (e : HearerEnd H I) → code_of (state_from (hears_at_end e) []) ≡ 0 → ⊥
    not_empty e z = let four = ap code_of (end_state e []) in cc

    tries_owes : (es : List (RaiseEvent H I)) → RaiserOwes [] (λ n. either (eqb n 1) 3 n) (Tries es) raising.Resting es
    tries_owes [] hearing.Ready fit h = (raising.Holding, [], takes 1 None, refl, refl, refl, record { calls = tt; aware = tt; hand = refl }, h, (state.Empty, refl, λ _ _. refl))
    tries_owes (raised.Kept j ∷ es) hearing.Ready fit h =
        (raising.Resting, raised.Kept j ∷ (es ++ raised.Late object state.HasObject ∷ []), keeps, tt, refl, refl, record { calls = came_back es object state.HasObject fit.calls; aware = tt; hand = tt }, raiser_acts [] (raised.Kept j ∷ es) (raised.Late object state.HasObject) h refl (λ _ _ _. tt), (state.HasObject, refl, late_at state.HasObject (raised.Kept j ∷ es)))
    tries_owes (raised.Called k j ∷ es) hearing.Ready fit h = absurd fit.calls
    tries_owes (raised.Late j s ∷ es) hearing.Ready fit h = absurd fit.calls
    tries_owes (raised.Gone j ∷ es) hearing.Ready fit h = absurd fit.calls
    tries_owes [] hearing.Holding fit h = (raising.Holding, [], takes 1 None, refl, refl, refl, record { calls = tt; aware = tt; hand = refl }, h, (state.Empty, refl, λ _ _. refl))
    tries_owes (raised.Kept j ∷ es) hearing.Holding fit h =
        (raising.Resting, raised.Kept j ∷ (es ++ raised.Late object state.HasObject ∷ []), keeps, tt, refl, refl, record { calls = came_back es object state.HasObject fit.calls; aware = tt; hand = tt }, raiser_acts [] (raised.Kept j ∷ es) (raised.Late object state.HasObject) h refl (λ _ _ _. tt), (state.HasObject, refl, late_at state.HasObject (raised.Kept j ∷ es)))
    tries_owes (raised.Called k j ∷ es) hearing.Holding fit h = absurd fit.calls
    tries_owes (raised.Late j s ∷ es) hearing.Holding fit h = absurd fit.calls
    tries_owes (raised.Gone j ∷ es) hearing.Holding fit h = absurd fit.calls
    tries_owes [] hearing.Aware fit h = absurd fit.aware
    tries_owes (raised.Kept j ∷ es) hearing.Aware fit h =
        (raising.Resting, raised.Kept j ∷ (es ++ raised.Late object state.HasObject ∷ []), keeps, tt, refl, refl, record { calls = came_back es object state.HasObject fit.calls; aware = came_back es object state.HasObject fit.aware; hand = tt }, raiser_acts [] (raised.Kept j ∷ es) (raised.Late object state.HasObject) h refl (λ _ _ _. tt), (state.HasObject, refl, late_at state.HasObject (raised.Kept j ∷ es)))
    tries_owes (raised.Called k j ∷ es) hearing.Aware fit h = absurd fit.calls
    tries_owes (raised.Late j s ∷ es) hearing.Aware fit h = absurd fit.calls
    tries_owes (raised.Gone j ∷ es) hearing.Aware fit h = absurd fit.calls
    tries_owes [] (hearing.Set k) fit h =
        (raising.Calling, raised.Called k object ∷ [], takes 0 (Some (item.Handler k)), refl, refl, refl, record { calls = (refl, tt); aware = tt; hand = tt }, raiser_acts (heard.Kept k ∷ []) [] (raised.Called k object) h refl (λ past hs _. ap handler_in hs), (state.HasHandler, refl, λ i e. (k, called_at k [] i e)))
    tries_owes (raised.Kept j ∷ es) (hearing.Set k) fit h = absurd fit.calls
    tries_owes (raised.Called l j ∷ es) (hearing.Set k) fit h =
        (raising.Resting, raised.Called l j ∷ (es ++ raised.Late object state.Called ∷ []), keeps, tt, refl, refl, record { calls = (fit.calls.0, came_back es object state.Called fit.calls.1); aware = tt; hand = tt }, raiser_acts (heard.Kept k ∷ []) (raised.Called l j ∷ es) (raised.Late object state.Called) h refl (λ _ _ _. tt), (state.Called, refl, late_at state.Called (raised.Called l j ∷ es)))
    tries_owes (raised.Late j s ∷ es) (hearing.Set k) fit h = absurd fit.calls
    tries_owes (raised.Gone j ∷ es) (hearing.Set k) fit h = absurd fit.calls
    tries_owes [] (hearing.Calling k i) fit h = absurd fit.calls
    tries_owes (raised.Kept j ∷ es) (hearing.Calling k i) fit h =
        (raising.Resting, raised.Kept j ∷ (es ++ raised.Late object state.Called ∷ []), keeps, tt, refl, refl, record { calls = (fit.calls.0, came_back es object state.Called fit.calls.1); aware = tt; hand = tt }, raiser_acts (heard.Called k i ∷ []) (raised.Kept j ∷ es) (raised.Late object state.Called) h refl (λ _ _ _. tt), (state.Called, refl, late_at state.Called (raised.Kept j ∷ es)))
    tries_owes (raised.Called l j ∷ es) (hearing.Calling k i) fit h = absurd fit.calls
    tries_owes (raised.Late j s ∷ es) (hearing.Calling k i) fit h = absurd fit.calls
    tries_owes (raised.Gone j ∷ es) (hearing.Calling k i) fit h = absurd fit.calls
    tries_owes [] (hearing.Called k i) fit h = absurd fit.calls
    tries_owes (raised.Kept j ∷ es) (hearing.Called k i) fit h =
        (raising.Resting, raised.Kept j ∷ (es ++ raised.Late object state.Called ∷ []), keeps, tt, refl, refl, record { calls = (fit.calls.0, came_back es object state.Called fit.calls.1); aware = tt; hand = tt }, raiser_acts (heard.Called k i ∷ []) (raised.Kept j ∷ es) (raised.Late object state.Called) h refl (λ _ _ _. tt), (state.Called, refl, late_at state.Called (raised.Kept j ∷ es)))
    tries_owes (raised.Called l j ∷ es) (hearing.Called k i) fit h = absurd fit.calls
    tries_owes (raised.Late j s ∷ es) (hearing.Called k i) fit h = absurd fit.calls
    tries_owes (raised.Gone j ∷ es) (hearing.Called k i) fit h = absurd fit.calls
    tries_owes es (hearing.Ending e) fit h =
        let after = tries_ended es e fit.calls h in
        (raising.Resting, es ++ raised.Gone object ∷ [], keeps, tt, ended_word e es (es ++ raised.Gone object ∷ []), refl, record { calls = after.0; aware = tt; hand = tt }, after.1, (state.Ended, ap code_of (end_state e es), gone_at es))
    tries_owes es (hearing.Ended e) fit h =
        let after = tries_ended es e fit.calls h in
        (raising.Resting, es ++ raised.Gone object ∷ [], keeps, tt, ended_word e es (es ++ raised.Gone object ∷ []), refl, record { calls = after.0; aware = tt; hand = tt }, after.1, (state.Ended, ap code_of (end_state e es), gone_at es))

    -- a raiser tries to call a handler
    pub tries_allowed : (slots id old new : ℕ) (es : List (RaiseEvent H I)) (said : Held H I) (me : Standing H I) → old ≡ 1 → new ≡ 3 → said ≡ Some (item.Object object) → me ≡ raiser_at raising.Resting es []
        → Allows InterruptHolds slots id me 0 (λ x. either (eqb x old) new x) (tries (step 2 0 1 3 (maybe.some said)) me)
    tries_allowed slots id old new es said me p q t e =
        subst (λ (z : (ℕ × ℕ) × (Held H I × Standing H I)). Allows InterruptHolds slots id z.1.1 0 (λ x. either (eqb x z.0.0) z.0.1 x) (tries (step 2 0 1 3 (maybe.some z.1.0)) z.1.1)) (λ k. ((sym p k, sym q k), (sym t k, sym e k)))
        (raiser_steps [] (λ x. either (eqb x 1) 3 x) (Tries es) slots id raising.Resting es (tries_owes es))

    object_in_slot : I → List (ℕ × Held H I) → I
    object_in_slot d [] = d
    object_in_slot d ((k, None) ∷ xs) = d
    object_in_slot d ((k, Some (item.Handler h)) ∷ xs) = d
    object_in_slot d ((k, Some (item.Object i)) ∷ xs) = i

    pub held_object : (i : I) → with_object {H = H} object [] ≡ with_object i [] → object ≡ i
    unfolding object_in_slot
    held_object i e = ap (object_in_slot object) e

    abbrev Places : List (RaiseEvent H I) → ℕ → Standing H I → Type 0
    Places es = places (raiser_at raising.Holding es (with_object object []))

    kept_at : (i : I) → with_object {H = H} object [] ≡ with_object i [] → raiser_at {H = H} raising.Resting (raised.Kept object ∷ []) [] ≡ raiser_at raising.Resting (raised.Kept i ∷ []) []
    kept_at i e = ap (λ (x : I). raiser_at {H = H} raising.Resting (raised.Kept x ∷ []) []) (held_object i e)

    places_owes : (es : List (RaiseEvent H I)) → RaiserOwes (with_object object []) (λ n. either (eqb n 0) 2 n) (Places es) raising.Holding es
    places_owes (x ∷ es) p fit h = let none = fit.hand in absurd (cc)
    places_owes [] hearing.Ready fit h = (raising.Resting, raised.Kept object ∷ [], gives, tt, refl, refl, record { calls = tt; aware = tt; hand = tt }, raiser_acts [] [] (raised.Kept object) h refl (λ _ _ _. tt), λ i e. ((λ _. kept_at i e), (λ n. absurd (n refl))))
    places_owes [] hearing.Holding fit h = (raising.Resting, raised.Kept object ∷ [], gives, tt, refl, refl, record { calls = tt; aware = tt; hand = tt }, raiser_acts [] [] (raised.Kept object) h refl (λ _ _ _. tt), λ i e. ((λ _. kept_at i e), (λ n. absurd (n refl))))
    places_owes [] hearing.Aware fit h = absurd fit.aware
    places_owes [] (hearing.Set k) fit h = (raising.Aware, [], keeps, tt, refl, refl, record { calls = tt; aware = tt; hand = (refl, tt) }, h, λ i e. ((λ z. absurd (cc)), (λ _. refl)))
    places_owes [] (hearing.Calling k j) fit h = absurd fit.calls
    places_owes [] (hearing.Called k j) fit h = absurd fit.calls
    places_owes [] (hearing.Ending e) fit h = (raising.Aware, [], keeps, tt, ended_stays e, refl, record { calls = fit.calls; aware = tt; hand = (refl, tt) }, h, λ i same. ((λ z. absurd (not_empty e z)), (λ _. refl)))
    places_owes [] (hearing.Ended e) fit h = (raising.Aware, [], keeps, tt, ended_stays e, refl, record { calls = fit.calls; aware = tt; hand = (refl, tt) }, h, λ i same. ((λ z. absurd (not_empty e z)), (λ _. refl)))

    -- a raiser leaves its object in its slot, or sees that the hearer has acted
    pub places_allowed : (slots id old new : ℕ) (es : List (RaiseEvent H I)) (me : Standing H I) → old ≡ 0 → new ≡ 2 → me ≡ raiser_at raising.Holding es (with_object object [])
        → Allows InterruptHolds slots id me 0 (λ x. either (eqb x old) new x) (places me)
    places_allowed slots id old new es me p q e =
        subst (λ (z : (ℕ × ℕ) × Standing H I). Allows InterruptHolds slots id z.1 0 (λ x. either (eqb x z.0.0) z.0.1 x) (places z.1)) (λ k. ((sym p k, sym q k), sym e k))
        (raiser_steps (with_object object []) (λ x. either (eqb x 0) 2 x) (Places es) slots id raising.Holding es (places_owes es))

    abbrev TriesAgain : List (RaiseEvent H I) → ℕ → Standing H I → Type 0
    TriesAgain es = tries_again (step 2 0 1 3 said_object) (raiser_at raising.Aware es (empty_slot 1 []))

    again_owes : (es : List (RaiseEvent H I)) → RaiserOwes (empty_slot 1 []) (λ n. either (eqb n 1) 3 n) (TriesAgain es) raising.Aware es
    again_owes (x ∷ es) p fit h = let none = fit.hand.0 in absurd (cc)
    again_owes [] hearing.Ready fit h = absurd fit.hand.1
    again_owes [] hearing.Holding fit h = absurd fit.hand.1
    again_owes [] hearing.Aware fit h = absurd fit.hand.1
    again_owes [] (hearing.Set k) fit h =
        (raising.Calling, raised.Called k object ∷ [], chain gives (takes 0 (Some (item.Handler k))), (tt, refl), refl, refl, record { calls = (refl, tt); aware = tt; hand = tt }, raiser_acts (heard.Kept k ∷ []) [] (raised.Called k object) h refl (λ past hs _. ap handler_in hs), λ i e. ((λ _. (k, called_at k [] i e)), (λ n. absurd (n refl))))
    again_owes [] (hearing.Calling k j) fit h = absurd fit.hand.1
    again_owes [] (hearing.Called k j) fit h = absurd fit.hand.1
    again_owes [] (hearing.Ending end.Unset) fit h = (raising.Resting, raised.Gone object ∷ [], gives, tt, refl, refl, record { calls = tt; aware = tt; hand = tt }, raiser_acts (hears_at_end end.Unset) [] (raised.Gone object) h refl (λ _ _ _. tt), λ i e. ((λ z. absurd (cc)), (λ _. gone_at [] i e)))
    again_owes [] (hearing.Ending (end.ObjectBack j)) fit h = absurd fit.calls
    again_owes [] (hearing.Ending (end.HandlerBack k)) fit h = (raising.Resting, raised.Gone object ∷ [], gives, tt, refl, refl, record { calls = (fit.calls.0, tt); aware = tt; hand = tt }, raiser_acts (hears_at_end (end.HandlerBack k)) [] (raised.Gone object) h refl (λ _ _ _. tt), λ i e. ((λ z. absurd (cc)), (λ _. gone_at [] i e)))
    again_owes [] (hearing.Ending (end.WasCalled k)) fit h = absurd fit.calls
    again_owes [] (hearing.Ending (end.HasCalled k j)) fit h = absurd fit.calls
    again_owes [] (hearing.Ended end.Unset) fit h = (raising.Resting, raised.Gone object ∷ [], gives, tt, refl, refl, record { calls = tt; aware = tt; hand = tt }, raiser_acts (hears_at_end end.Unset) [] (raised.Gone object) h refl (λ _ _ _. tt), λ i e. ((λ z. absurd (cc)), (λ _. gone_at [] i e)))
    again_owes [] (hearing.Ended (end.ObjectBack j)) fit h = absurd fit.calls
    again_owes [] (hearing.Ended (end.HandlerBack k)) fit h = (raising.Resting, raised.Gone object ∷ [], gives, tt, refl, refl, record { calls = (fit.calls.0, tt); aware = tt; hand = tt }, raiser_acts (hears_at_end (end.HandlerBack k)) [] (raised.Gone object) h refl (λ _ _ _. tt), λ i e. ((λ z. absurd (cc)), (λ _. gone_at [] i e)))
    again_owes [] (hearing.Ended (end.WasCalled k)) fit h = absurd fit.calls
    again_owes [] (hearing.Ended (end.HasCalled k j)) fit h = absurd fit.calls

    -- a raiser calls the handler that it saw, or sees that the hearer has ended
    pub again_allowed : (slots id old new : ℕ) (es : List (RaiseEvent H I)) (said : Held H I) (me : Standing H I) → old ≡ 1 → new ≡ 3 → said ≡ Some (item.Object object) → me ≡ raiser_at raising.Aware es (empty_slot 1 [])
        → Allows InterruptHolds slots id me 0 (λ x. either (eqb x old) new x) (tries_again (step 2 0 1 3 (maybe.some said)) me)
    again_allowed slots id old new es said me p q t e =
        subst (λ (z : (ℕ × ℕ) × (Held H I × Standing H I)). Allows InterruptHolds slots id z.1.1 0 (λ x. either (eqb x z.0.0) z.0.1 x) (tries_again (step 2 0 1 3 (maybe.some z.1.0)) z.1.1)) (λ k. ((sym p k, sym q k), (sym t k, sym e k)))
        (raiser_steps (empty_slot 1 []) (λ x. either (eqb x 1) 3 x) (TriesAgain es) slots id raising.Aware es (again_owes es))

  gives_owes : (es : List (RaiseEvent H I)) → RaiserOwes (empty_slot 0 []) (λ n. n) (gives_back (raiser_at raising.Calling es (empty_slot 0 []))) raising.Calling es
  gives_owes [] p fit h = absurd fit.hand
  gives_owes (raised.Kept j ∷ es) p fit h = absurd fit.hand
  gives_owes (raised.Late j s ∷ es) p fit h = absurd fit.hand
  gives_owes (raised.Gone j ∷ es) p fit h = absurd fit.hand
  gives_owes (raised.Called l j ∷ es) hearing.Ready fit h = absurd fit.calls
  gives_owes (raised.Called l j ∷ es) hearing.Holding fit h = absurd fit.calls
  gives_owes (raised.Called l j ∷ es) hearing.Aware fit h = absurd fit.calls
  gives_owes (raised.Called l j ∷ es) (hearing.Set k) fit h = (raising.Resting, raised.Called l j ∷ es, gives, tt, refl, refl, record { calls = fit.calls; aware = tt; hand = tt }, h, refl)
  gives_owes (raised.Called l j ∷ es) (hearing.Calling k i) fit h = absurd fit.calls
  gives_owes (raised.Called l j ∷ es) (hearing.Called k i) fit h = absurd fit.calls
  gives_owes (raised.Called l j ∷ es) (hearing.Ending end.Unset) fit h = absurd fit.calls
  gives_owes (raised.Called l j ∷ es) (hearing.Ending (end.ObjectBack i)) fit h = absurd fit.calls
  gives_owes (raised.Called l j ∷ es) (hearing.Ending (end.HandlerBack k)) fit h = absurd fit.calls.1
  gives_owes (raised.Called l j ∷ es) (hearing.Ending (end.WasCalled k)) fit h = (raising.Resting, raised.Called l j ∷ es, gives, tt, refl, refl, record { calls = fit.calls; aware = tt; hand = tt }, h, refl)
  gives_owes (raised.Called l j ∷ es) (hearing.Ending (end.HasCalled k i)) fit h = absurd fit.calls
  gives_owes (raised.Called l j ∷ es) (hearing.Ended e) fit h = (raising.Resting, raised.Called l j ∷ es, gives, tt, refl, refl, record { calls = fit.calls; aware = tt; hand = tt }, h, refl)

  -- a raiser that has called gives the handler's slot back
  pub gives_allowed : (slots id : ℕ) (es : List (RaiseEvent H I)) (me : Standing H I) → me ≡ raiser_at raising.Calling es (empty_slot 0 []) → Allows InterruptHolds slots id me 0 (λ n. n) (gives_back me)
  gives_allowed slots id es me e = subst (λ (m : Standing H I). Allows InterruptHolds slots id m 0 (λ n. n) (gives_back m)) (sym e)
      (raiser_steps (empty_slot 0 []) (λ n. n) (gives_back (raiser_at raising.Calling es (empty_slot 0 []))) slots id raising.Calling es (gives_owes es))

  -- what a second try tells, by the test of the number that it found
  pub again_called : (found one : ℕ) (es : List (RaiseEvent H I)) (said : Held H I) (me after : Standing H I) → one ≡ 1 → me ≡ raiser_at raising.Aware es (empty_slot 1 []) → tries_again (step 2 0 1 3 (maybe.some said)) me found after
      → OnTrue (eqb found one) ((i : I) → said ≡ Some (item.Object i) → (h : H) × (after ≡ raiser_at raising.Calling (es ++ raised.Called h i ∷ []) (with_handler h [])))
  again_called found one es said me after is stands told = on_true found one ((i : I) → said ≡ Some (item.Object i) → (h : H) × (after ≡ raiser_at raising.Calling (es ++ raised.Called h i ∷ []) (with_handler h [])))
      (λ same i e.
      let got = (told i (ap (λ (x : Held H I). maybe.some x) e)).0 (same ∙ is) in
      (got.0, got.1 ∙ ap (λ (m : Standing H I). raiser_at raising.Calling (raised_in m.0 ++ raised.Called got.0 i ∷ []) (with_handler got.0 [])) stands))

  -- what a raiser sees that couldn't leave its object, by the same test
  pub place_aware : (home : TableId) (seat : Seat (Held H I) (View H I)) (found zero' : ℕ) (es : List (RaiseEvent H I)) (object : I) (me : Standing H I) → zero' ≡ 0 → seat.table_id ≡ home → me ≡ raiser_at raising.Holding es (with_object object [])
      → places me found seat.me → OnFalse (eqb found zero') (Sits home seat (raiser_at raising.Aware es (with_object object [])))
  place_aware home seat found zero' es object me is of stands told = on_false found zero' (Sits home seat (raiser_at raising.Aware es (with_object object [])))
      (λ other. record {
        of_home = of;
        stands = (told object (ap (λ (m : Standing H I). m.1) stands)).1 (λ z. other (z ∙ sym is)) ∙ ap (λ (m : Standing H I). raiser_at raising.Aware (raised_in m.0) m.1) stands;
      })
