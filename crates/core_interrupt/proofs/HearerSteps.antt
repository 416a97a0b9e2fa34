-- Each step of a hearer keeps the interrupt rule.
use Rattle.std.proofs.Common.{◌≡◌, ◌≢◌, ℕ, eqb, List, [], ◌∷◌, ◌++◌, Option, Some, None, refl, sym, ap, ◌∙◌, subst}
use mathlib.Core.Option as maybe
use prog.Atomic.{either}
use Rattle.atomic_table.specs.Table.{keeps, takes, gives, chain, Allows}
use Rattle.core_interrupt.specs.declared.history.RaiseEvent.{RaiseEvent}
use Rattle.core_interrupt.specs.declared.history.RaiseEvent.TheVariants as raised
use Rattle.core_interrupt.specs.declared.history.HearEvent.TheVariants as heard
use Rattle.core_interrupt.specs.declared.view.HearerEnd.{HearerEnd}
use Rattle.core_interrupt.specs.declared.view.HearerEnd.TheVariants as end
use Rattle.core_interrupt.specs.declared.view.Item.TheVariants as item
use Rattle.core_interrupt.specs.declared.view.Hearing.{Hearing}
use Rattle.core_interrupt.specs.declared.view.Hearing.TheVariants as hearing
use Rattle.core_interrupt.specs.declared.view.Raising.{Raising}
use Rattle.core_interrupt.specs.declared.view.Raising.TheVariants as raising
use Rattle.core_interrupt.specs.declared.view.View.TheVariants as view
use Rattle.core_interrupt.specs.History.{first_object, handler_in, OnlyGone, NoneOrKept, FirstKept, InterruptHistory}
use Rattle.core_interrupt.specs.Views.{Held, hears_of, HasCalled, IsFirst, HandFits, SomeKept, Fit}
use Rattle.core_interrupt.specs.Rule.{InterruptHolds}
use Rattle.core_interrupt.specs.Steps.{Standing, hearer_at, empty_slot, with_handler, with_object, armed, takes_slot, sets, meets, gives_back, ends_unset, ends_armed}
use Rattle.core_interrupt.proofs.Merging.{hearer_acts}
use Rattle.core_interrupt.proofs.Sides.{HearerOwes, hearer_steps}

module _ {H I : Type 0} where
  -- a raiser that has called a handler has not kept its object
  uncalled : (es : List (RaiseEvent H I)) → NoneOrKept es → HasCalled es → ⊥
  uncalled [] none called = called
  uncalled (raised.Kept i ∷ es) none called = called
  uncalled (raised.Called h i ∷ es) none called = none
  uncalled (raised.Late i s ∷ es) none called = called
  uncalled (raised.Gone i ∷ es) none called = called

  -- the slot of a raiser fits the hearer after its step
  hand_kept : (p q : Hearing H I) (r : Raising) (es : List (RaiseEvent H I)) → (IsFirst p → IsFirst q) → HandFits p r es → HandFits q r es
  hand_kept p q raising.Resting es first hand = tt
  hand_kept p q raising.Holding es first hand = hand
  hand_kept p q raising.Aware es first hand = (hand.0, first hand.1)
  hand_kept p q raising.Calling es first hand = hand

  takes_owes : HearerOwes [] (λ n. n) (takes_slot (hearer_at {H = H} {I = I} hearing.Ready [])) hearing.Ready
  takes_owes raising.Resting es fit h = (hearing.Holding, takes 0 None, refl, refl, refl, record { calls = fit.calls; aware = tt; hand = tt }, h, refl)
  takes_owes raising.Holding es fit h = (hearing.Holding, takes 0 None, refl, refl, refl, record { calls = fit.calls; aware = tt; hand = fit.hand }, h, refl)
  takes_owes raising.Aware es fit h = absurd fit.hand.1
  takes_owes raising.Calling es fit h = absurd (uncalled es fit.calls fit.hand)

  -- a hearer that has done nothing takes the handler's slot
  pub takes_allowed : (slots id : ℕ) (me : Standing H I) → me ≡ hearer_at hearing.Ready [] → Allows InterruptHolds slots id me 0 (λ n. n) (takes_slot me)
  takes_allowed slots id me e = subst (λ (m : Standing H I). Allows InterruptHolds slots id m 0 (λ n. n) (takes_slot m)) (sym e) (hearer_steps [] (λ n. n) (takes_slot (hearer_at hearing.Ready [])) slots id hearing.Ready takes_owes)

  -- the handler in a slot, and the object
  handler_or : H → List (ℕ × Held H I) → H
  handler_or d [] = d
  handler_or d ((k, None) ∷ xs) = d
  handler_or d ((k, Some (item.Handler h)) ∷ xs) = h
  handler_or d ((k, Some (item.Object i)) ∷ xs) = d

  module _ (handler : H) where
    pub same_handler : (h : H) → with_handler {I = I} handler [] ≡ with_handler h [] → handler ≡ h
    unfolding handler_or
    same_handler h e = ap (handler_or handler) e

    set_at : (h : H) → with_handler {I = I} handler [] ≡ with_handler h [] → hearer_at {I = I} (hearing.Set handler) [] ≡ hearer_at (hearing.Set h) []
    set_at h e = ap (λ (x : H). hearer_at {I = I} (hearing.Set x) []) (same_handler h e)

    sets_owes : HearerOwes (with_handler {I = I} handler []) (λ n. either (eqb n 0) 1 n) (sets (hearer_at hearing.Holding (with_handler handler []))) hearing.Holding
    sets_owes raising.Resting [] fit h = (hearing.Set handler, gives, tt, refl, refl, record { calls = tt; aware = tt; hand = tt }, hearer_acts [] [] (heard.Kept handler) h refl (λ _ _ _. tt), λ x e. ((λ _. set_at x e), (λ n. absurd (n refl))))
    sets_owes raising.Holding [] fit h = (hearing.Set handler, gives, tt, refl, refl, record { calls = tt; aware = tt; hand = refl }, hearer_acts [] [] (heard.Kept handler) h refl (λ _ _ _. tt), λ x e. ((λ _. set_at x e), (λ n. absurd (n refl))))
    sets_owes raising.Aware [] fit h = absurd fit.hand.1
    sets_owes raising.Calling [] fit h = absurd fit.hand
    sets_owes r (raised.Kept i ∷ es) fit h =
        (hearing.Aware, keeps, tt, refl, refl, record { calls = fit.calls; aware = fit.calls; hand = hand_kept hearing.Holding hearing.Aware r (raised.Kept i ∷ es) (λ x. x) fit.hand }, h, λ x e. ((λ z. absurd (cc)), (λ _. refl)))
    sets_owes r (raised.Called k i ∷ es) fit h = absurd fit.calls
    sets_owes r (raised.Late i s ∷ es) fit h = absurd fit.calls
    sets_owes r (raised.Gone i ∷ es) fit h = absurd fit.calls

    -- a hearer sets its handler, or sees that an object waits
    pub sets_allowed : (slots id old new : ℕ) (me : Standing H I) → old ≡ 0 → new ≡ 1 → me ≡ hearer_at hearing.Holding (with_handler handler []) → Allows InterruptHolds slots id me 0 (λ n. either (eqb n old) new n) (sets me)
    sets_allowed slots id old new me a b e = subst (λ (z : (ℕ × ℕ) × Standing H I). Allows InterruptHolds slots id z.1 0 (λ n. either (eqb n z.0.0) z.0.1 n) (sets z.1)) (λ k. ((sym a k, sym b k), sym e k))
        (hearer_steps (with_handler handler []) (λ n. either (eqb n 0) 1 n) (sets (hearer_at hearing.Holding (with_handler handler []))) slots id hearing.Holding sets_owes)

    called_at : (i : I) (h : H) → with_handler {I = I} handler [] ≡ with_handler h []
        → hearer_at (hearing.Calling handler i) (with_object i (with_handler handler [])) ≡ hearer_at (hearing.Calling h i) (with_object i (with_handler h []))
    called_at i h e = ap (λ (x : H). hearer_at (hearing.Calling x i) (with_object i (with_handler x []))) (same_handler h e)

    meets_owes : HearerOwes (with_handler {I = I} handler []) (λ n. either (eqb n 2) 3 n) (meets (hearer_at hearing.Aware (with_handler handler []))) hearing.Aware
    meets_owes r [] fit h = absurd fit.aware
    meets_owes raising.Resting (raised.Kept i ∷ es) fit h =
        (hearing.Calling handler i, takes 1 (Some (item.Object i)), refl, refl, refl, record { calls = (refl, fit.calls); aware = tt; hand = tt }, hearer_acts [] (raised.Kept i ∷ es) (heard.Called handler i) h refl (λ past _ rs. ap first_object rs), λ x e. (i, called_at i x e))
    meets_owes raising.Holding (raised.Kept i ∷ es) fit h = let none = fit.hand in absurd (cc)
    meets_owes raising.Aware (raised.Kept i ∷ es) fit h = absurd fit.hand.1
    meets_owes raising.Calling (raised.Kept i ∷ es) fit h = absurd fit.hand
    meets_owes r (raised.Called k i ∷ es) fit h = absurd fit.aware
    meets_owes r (raised.Late i s ∷ es) fit h = absurd fit.aware
    meets_owes r (raised.Gone i ∷ es) fit h = absurd fit.aware

    -- a hearer sets its handler where an object waits, and takes the object
    pub meets_allowed : (slots id old new : ℕ) (me : Standing H I) → old ≡ 2 → new ≡ 3 → me ≡ hearer_at hearing.Aware (with_handler handler []) → Allows InterruptHolds slots id me 0 (λ n. either (eqb n old) new n) (meets me)
    meets_allowed slots id old new me a b e = subst (λ (z : (ℕ × ℕ) × Standing H I). Allows InterruptHolds slots id z.1 0 (λ n. either (eqb n z.0.0) z.0.1 n) (meets z.1)) (λ k. ((sym a k, sym b k), sym e k))
        (hearer_steps (with_handler handler []) (λ n. either (eqb n 2) 3 n) (meets (hearer_at hearing.Aware (with_handler handler []))) slots id hearing.Aware meets_owes)

  -- beside a hearer that got an object, the raiser has no slot
  kept_is_some : (i : I) (es : List (RaiseEvent H I)) → FirstKept i es → es ≡ [] → ⊥
  kept_is_some i [] kept none = kept
  kept_is_some i (e ∷ es) kept none = cc

  kept_uncalled : (i : I) (es : List (RaiseEvent H I)) → FirstKept i es → HasCalled es → ⊥
  kept_uncalled i [] kept called = kept
  kept_uncalled i (raised.Kept j ∷ es) kept called = called
  kept_uncalled i (raised.Called h j ∷ es) kept called = kept
  kept_uncalled i (raised.Late j s ∷ es) kept called = kept
  kept_uncalled i (raised.Gone j ∷ es) kept called = kept

  gives_called : (handler : H) (i : I) → HearerOwes (empty_slot 0 (empty_slot 1 [])) (λ n. n) (gives_back (hearer_at (hearing.Calling handler i) (empty_slot 0 (empty_slot 1 [])))) (hearing.Calling handler i)
  gives_called handler i raising.Resting es fit h = (hearing.Called handler i, chain gives gives, (tt, tt), refl, refl, record { calls = fit.calls; aware = tt; hand = tt }, h, refl)
  gives_called handler i raising.Holding es fit h = absurd (kept_is_some i es fit.calls fit.hand)
  gives_called handler i raising.Aware es fit h = absurd fit.hand.1
  gives_called handler i raising.Calling es fit h = absurd (kept_uncalled i es fit.calls fit.hand)

  -- a hearer that has called gives both slots back
  pub gives_called_allowed : (slots id : ℕ) (handler : H) (i : I) (me : Standing H I) → me ≡ hearer_at (hearing.Calling handler i) (empty_slot 0 (empty_slot 1 [])) → Allows InterruptHolds slots id me 0 (λ n. n) (gives_back me)
  gives_called_allowed slots id handler i me e = subst (λ (m : Standing H I). Allows InterruptHolds slots id m 0 (λ n. n) (gives_back m)) (sym e)
      (hearer_steps (empty_slot 0 (empty_slot 1 [])) (λ n. n) (gives_back (hearer_at (hearing.Calling handler i) (empty_slot 0 (empty_slot 1 [])))) slots id (hearing.Calling handler i) (gives_called handler i))

  ends_unset_owes : HearerOwes [] (λ _. 4) (ends_unset (hearer_at {H = H} {I = I} hearing.Ready [])) hearing.Ready
  ends_unset_owes r [] fit h =
      (hearing.Ended end.Unset, keeps, tt, refl, refl, record { calls = tt; aware = tt; hand = hand_kept hearing.Ready (hearing.Ended end.Unset) r [] (λ x. tt) fit.hand }, hearer_acts [] [] heard.EndedEmpty h refl (λ _ _ _. tt), ((λ z. absurd (cc)), (λ _. refl)))
  ends_unset_owes raising.Resting (raised.Kept i ∷ es) fit h =
      (hearing.Ending (end.ObjectBack i), takes 1 (Some (item.Object i)), refl, refl, refl, record { calls = (refl, fit.calls); aware = tt; hand = tt }, hearer_acts [] (raised.Kept i ∷ es) (heard.EndedWithObject i) h refl (λ past _ rs. ap first_object rs), ((λ _. (i, refl)), (λ n. absurd (n refl))))
  ends_unset_owes raising.Holding (raised.Kept i ∷ es) fit h = let none = fit.hand in absurd (cc)
  ends_unset_owes raising.Aware (raised.Kept i ∷ es) fit h = absurd fit.hand.1
  ends_unset_owes raising.Calling (raised.Kept i ∷ es) fit h = absurd fit.hand
  ends_unset_owes r (raised.Called k i ∷ es) fit h = absurd fit.calls
  ends_unset_owes r (raised.Late i s ∷ es) fit h = absurd fit.calls
  ends_unset_owes r (raised.Gone i ∷ es) fit h = absurd fit.calls

  -- a hearer that has set nothing ends
  pub ends_unset_allowed : (slots id new : ℕ) (me : Standing H I) → new ≡ 4 → me ≡ hearer_at hearing.Ready [] → Allows InterruptHolds slots id me 0 (λ _. new) (ends_unset me)
  ends_unset_allowed slots id new me b e = subst (λ (z : ℕ × Standing H I). Allows InterruptHolds slots id z.1 0 (λ _. z.0) (ends_unset z.1)) (λ k. (sym b k, sym e k))
      (hearer_steps [] (λ _. 4) (ends_unset (hearer_at hearing.Ready [])) slots id hearing.Ready ends_unset_owes)

  ends_set_owes : (handler : H) → HearerOwes [] (λ _. 4) (ends_armed (hearer_at {I = I} (hearing.Set handler) [])) (hearing.Set handler)
  ends_set_owes handler raising.Resting [] fit h = (hearing.Ending (end.HandlerBack handler), takes 0 (Some (item.Handler handler)), refl, refl, refl, record { calls = (refl, tt); aware = tt; hand = tt }, hearer_acts (heard.Kept handler ∷ []) [] (heard.EndedWithHandler handler) h refl (λ past hs _. ap handler_in hs), ((λ _. (handler, refl, refl)), (λ n. absurd (n refl))))
  ends_set_owes handler raising.Holding [] fit h = (hearing.Ending (end.HandlerBack handler), takes 0 (Some (item.Handler handler)), refl, refl, refl, record { calls = (refl, tt); aware = tt; hand = refl }, hearer_acts (heard.Kept handler ∷ []) [] (heard.EndedWithHandler handler) h refl (λ past hs _. ap handler_in hs), ((λ _. (handler, refl, refl)), (λ n. absurd (n refl))))
  ends_set_owes handler raising.Aware [] fit h = (hearing.Ending (end.HandlerBack handler), takes 0 (Some (item.Handler handler)), refl, refl, refl, record { calls = (refl, tt); aware = tt; hand = (refl, tt) }, hearer_acts (heard.Kept handler ∷ []) [] (heard.EndedWithHandler handler) h refl (λ past hs _. ap handler_in hs), ((λ _. (handler, refl, refl)), (λ n. absurd (n refl))))
  ends_set_owes handler raising.Calling [] fit h = absurd fit.hand
  ends_set_owes handler r (raised.Kept i ∷ es) fit h = absurd fit.calls
  ends_set_owes handler r (raised.Called k i ∷ es) fit h =
      (hearing.Ended (end.WasCalled handler), keeps, tt, refl, refl, record { calls = fit.calls; aware = tt; hand = hand_kept (hearing.Set handler) (hearing.Ended (end.WasCalled handler)) r (raised.Called k i ∷ es) (λ x. tt) fit.hand }, hearer_acts (heard.Kept handler ∷ []) (raised.Called k i ∷ es) heard.EndedCalled h refl (λ _ _ _. tt), ((λ z. absurd (cc)), (λ _. (handler, None, refl, refl))))
  ends_set_owes handler r (raised.Late i s ∷ es) fit h = absurd fit.calls
  ends_set_owes handler r (raised.Gone i ∷ es) fit h = absurd fit.calls

  ends_called_owes : (handler : H) (i : I) → HearerOwes [] (λ _. 4) (ends_armed (hearer_at (hearing.Called handler i) [])) (hearing.Called handler i)
  ends_called_owes handler i r [] fit h = absurd fit.calls
  ends_called_owes handler i r (raised.Kept j ∷ es) fit h =
      (hearing.Ended (end.HasCalled handler i), keeps, tt, refl, refl, record { calls = fit.calls; aware = tt; hand = hand_kept (hearing.Called handler i) (hearing.Ended (end.HasCalled handler i)) r (raised.Kept j ∷ es) (λ x. tt) fit.hand }, hearer_acts (heard.Called handler i ∷ []) (raised.Kept j ∷ es) heard.EndedCalled h refl (λ _ _ _. tt), ((λ z. absurd (cc)), (λ _. (handler, Some i, refl, refl))))
  ends_called_owes handler i r (raised.Called k j ∷ es) fit h = absurd fit.calls
  ends_called_owes handler i r (raised.Late j s ∷ es) fit h = absurd fit.calls
  ends_called_owes handler i r (raised.Gone j ∷ es) fit h = absurd fit.calls

  ends_armed_owes : (handler : H) (got : Option I) → HearerOwes [] (λ _. 4) (ends_armed (hearer_at (armed handler got) [])) (armed handler got)
  ends_armed_owes handler None = ends_set_owes handler
  ends_armed_owes handler (Some i) = ends_called_owes handler i

  -- a hearer that has set a handler ends
  pub ends_armed_allowed : (slots id new : ℕ) (handler : H) (got : Option I) (me : Standing H I) → new ≡ 4 → me ≡ hearer_at (armed handler got) [] → Allows InterruptHolds slots id me 0 (λ _. new) (ends_armed me)
  ends_armed_allowed slots id new handler got me b e = subst (λ (z : ℕ × Standing H I). Allows InterruptHolds slots id z.1 0 (λ _. z.0) (ends_armed z.1)) (λ k. (sym b k, sym e k))
      (hearer_steps [] (λ _. 4) (ends_armed (hearer_at (armed handler got) [])) slots id (armed handler got) (ends_armed_owes handler got))

  gives_object_owes : (i : I) → HearerOwes (empty_slot 1 []) (λ n. n) (gives_back (hearer_at {H = H} (hearing.Ending (end.ObjectBack i)) (empty_slot 1 []))) (hearing.Ending (end.ObjectBack i))
  gives_object_owes i raising.Resting es fit h = (hearing.Ended (end.ObjectBack i), gives, tt, refl, refl, record { calls = fit.calls; aware = tt; hand = tt }, h, refl)
  gives_object_owes i raising.Holding es fit h = absurd (kept_is_some i es fit.calls fit.hand)
  gives_object_owes i raising.Aware es fit h = absurd (kept_is_some i es fit.calls fit.hand.0)
  gives_object_owes i raising.Calling es fit h = absurd (kept_uncalled i es fit.calls fit.hand)

  -- a hearer that got the object back gives its slot back
  pub gives_object_allowed : (slots id : ℕ) (i : I) (me : Standing H I) → me ≡ hearer_at (hearing.Ending (end.ObjectBack i)) (empty_slot 1 []) → Allows InterruptHolds slots id me 0 (λ n. n) (gives_back me)
  gives_object_allowed slots id i me e = subst (λ (m : Standing H I). Allows InterruptHolds slots id m 0 (λ n. n) (gives_back m)) (sym e)
      (hearer_steps (empty_slot 1 []) (λ n. n) (gives_back (hearer_at (hearing.Ending (end.ObjectBack i)) (empty_slot 1 []))) slots id (hearing.Ending (end.ObjectBack i)) (gives_object_owes i))

  gone_uncalled : (es : List (RaiseEvent H I)) → OnlyGone es → HasCalled es → ⊥
  gone_uncalled [] gone called = called
  gone_uncalled (raised.Kept j ∷ es) gone called = called
  gone_uncalled (raised.Called h j ∷ es) gone called = gone
  gone_uncalled (raised.Late j s ∷ es) gone called = called
  gone_uncalled (raised.Gone j ∷ es) gone called = called

  gives_handler_owes : (handler : H) → HearerOwes (empty_slot 0 []) (λ n. n) (gives_back (hearer_at {I = I} (hearing.Ending (end.HandlerBack handler)) (empty_slot 0 []))) (hearing.Ending (end.HandlerBack handler))
  gives_handler_owes handler raising.Resting es fit h = (hearing.Ended (end.HandlerBack handler), gives, tt, refl, refl, record { calls = fit.calls; aware = tt; hand = tt }, h, refl)
  gives_handler_owes handler raising.Holding es fit h = (hearing.Ended (end.HandlerBack handler), gives, tt, refl, refl, record { calls = fit.calls; aware = tt; hand = fit.hand }, h, refl)
  gives_handler_owes handler raising.Aware es fit h = (hearing.Ended (end.HandlerBack handler), gives, tt, refl, refl, record { calls = fit.calls; aware = tt; hand = (fit.hand.0, tt) }, h, refl)
  gives_handler_owes handler raising.Calling es fit h = absurd (gone_uncalled es fit.calls.1 fit.hand)

  -- a hearer that got its handler back gives its slot back
  pub gives_handler_allowed : (slots id : ℕ) (handler : H) (me : Standing H I) → me ≡ hearer_at (hearing.Ending (end.HandlerBack handler)) (empty_slot 0 []) → Allows InterruptHolds slots id me 0 (λ n. n) (gives_back me)
  gives_handler_allowed slots id handler me e = subst (λ (m : Standing H I). Allows InterruptHolds slots id m 0 (λ n. n) (gives_back m)) (sym e)
      (hearer_steps (empty_slot 0 []) (λ n. n) (gives_back (hearer_at (hearing.Ending (end.HandlerBack handler)) (empty_slot 0 []))) slots id (hearing.Ending (end.HandlerBack handler)) (gives_handler_owes handler))
