-- What a raise answers, from what its steps tell.
use Rattle.std.proofs.Common.{◌≡◌, ℕ, inl, inr, List, [], ◌∷◌, ◌++◌, Option, Some, None, refl, sym, ap, ◌∙◌, subst}
use Rattle.atomic_table.specs.Seated.{TableId}
use Rattle.atomic_table.specs.declared.shared.Seat.{Seat}
use Rattle.core_interrupt.specs.declared.state.State.{State}
use Rattle.core_interrupt.specs.declared.state.State.TheVariants as state
use Rattle.core_interrupt.specs.declared.history.RaiseEvent.{RaiseEvent}
use Rattle.core_interrupt.specs.declared.history.RaiseEvent.TheVariants as event
use Rattle.core_interrupt.specs.declared.raiser.Raised.{Raised}
use Rattle.core_interrupt.specs.declared.raiser.Raised.TheVariants as raised
use Rattle.core_interrupt.specs.declared.view.Item.TheVariants as item
use Rattle.core_interrupt.specs.declared.view.Raising.{Raising}
use Rattle.core_interrupt.specs.declared.view.Raising.TheVariants as raising
use Rattle.core_interrupt.specs.declared.view.View.{View}
use Rattle.core_interrupt.specs.Views.{Held, raised_in}
use Rattle.core_interrupt.specs.Steps.{Standing, Sits, raiser_at, empty_slot, with_handler, with_object}
use Rattle.core_interrupt.specs.Answers.{RaisesAt}
use Rattle.core_interrupt.proofs.HearerSteps.{same_handler}
use Rattle.core_interrupt.proofs.RaiserSteps.{held_object}

module _ {H I : Type 0} where
  -- where a raiser stands, by what its view says
  pub stands_so : (me : Standing H I) (r : Raising) (es : List (RaiseEvent H I)) (cs : List (ℕ × Held H I)) → me ≡ raiser_at r es cs → me ≡ raiser_at r (raised_in me.0) cs
  stands_so me r es cs e = e ∙ ap (λ (l : List (RaiseEvent H I)). raiser_at r l cs) (sym (ap (λ (m : Standing H I). raised_in m.0) e))

  abbrev pub Answered : TableId → Seat (Held H I) (View H I) → List (RaiseEvent H I) → I → Raised H I → Type 0
  Answered home seat es object answer = (this : RaiseEvent H I) × RaisesAt object answer this × Sits home seat (raiser_at raising.Resting (es ++ this ∷ []) [])

  -- a raise that calls the handler
  pub answers_call : (home : TableId) (seat : Seat (Held H I) (View H I)) (es : List (RaiseEvent H I)) (object out : I) (h k : H) (tried : Standing H I)
      → tried ≡ raiser_at raising.Calling (es ++ event.Called k object ∷ []) (with_handler k []) → tried.1 ≡ with_handler h [] → object ≡ out → Sits home seat (raiser_at raising.Resting (raised_in tried.0) [])
      → Answered home seat es object (raised.Call h out)
  answers_call home seat es object out h k tried stands had same sits =
      let handler : k ≡ h = same_handler k h (sym (ap (λ (m : Standing H I). m.1) stands) ∙ had) in
      let all = ap (λ (m : Standing H I). raised_in m.0) stands ∙ ap (λ (x : H). es ++ event.Called x object ∷ []) handler in
      (event.Called h object, (sym same, refl), record { of_home = sits.of_home; stands = sits.stands ∙ ap (λ (l : List (RaiseEvent H I)). raiser_at raising.Resting l []) all })

  -- an object that was put into its slot and taken out again, after which the raiser stands as it did
  module _ (es : List (RaiseEvent H I)) (object back : I) (placed taken : Standing H I) (stands : placed ≡ raiser_at raising.Aware es (with_object object [])) (had : placed.1 ≡ with_object back [])
      (sits : taken ≡ raiser_at raising.Aware (raised_in placed.0) (empty_slot 1 [])) where
    came_out : back ≡ object
    came_out = sym (held_object {H = H} object back (sym (ap (λ (m : Standing H I). m.1) stands) ∙ had))

    raises_stay : raised_in taken.0 ≡ es
    raises_stay = ap (λ (m : Standing H I). raised_in m.0) sits ∙ ap (λ (m : Standing H I). raised_in m.0) stands

    pub answers_second_call : (home : TableId) (seat : Seat (Held H I) (View H I)) (out : I) (h k : H) (tried : Standing H I) → tried ≡ raiser_at raising.Calling (raised_in taken.0 ++ event.Called k back ∷ []) (with_handler k [])
        → tried.1 ≡ with_handler h [] → back ≡ out → Sits home seat (raiser_at raising.Resting (raised_in tried.0) []) → Answered home seat es object (raised.Call h out)
    answers_second_call home seat out h k tried is handler same rests =
        answers_call home seat es object out h k tried (is ∙ (λ j. raiser_at raising.Calling (raises_stay j ++ event.Called k (came_out j) ∷ []) (with_handler k []))) handler (sym came_out ∙ same) rests

    pub answers_second_gone : (home : TableId) (seat : Seat (Held H I) (View H I)) (out : I) → seat.table_id ≡ home → seat.me ≡ raiser_at raising.Resting (raised_in taken.0 ++ event.Gone back ∷ []) [] → back ≡ out
        → Answered home seat es object (raised.Gone out)
    answers_second_gone home seat out of is same =
        (event.Gone object, (sym same ∙ came_out, refl), record { of_home = of; stands = is ∙ (λ j. raiser_at raising.Resting (raises_stay j ++ event.Gone (came_out j) ∷ []) []) })

  pub answers_late : (home : TableId) (seat : Seat (Held H I) (View H I)) (es : List (RaiseEvent H I)) (object out : I) → seat.table_id ≡ home → seat.me ≡ raiser_at raising.Resting (es ++ event.Late object state.HasObject ∷ []) [] → object ≡ out
      → Answered home seat es object (raised.Late out)
  answers_late home seat es object out of is same = (event.Late object state.HasObject, (sym same, inl refl), record { of_home = of; stands = is })

  pub answers_after_call : (home : TableId) (seat : Seat (Held H I) (View H I)) (es : List (RaiseEvent H I)) (object out : I) → seat.table_id ≡ home → seat.me ≡ raiser_at raising.Resting (es ++ event.Late object state.Called ∷ []) [] → object ≡ out
      → Answered home seat es object (raised.Late out)
  answers_after_call home seat es object out of is same = (event.Late object state.Called, (sym same, inr refl), record { of_home = of; stands = is })

  pub answers_gone : (home : TableId) (seat : Seat (Held H I) (View H I)) (es : List (RaiseEvent H I)) (object out : I) → seat.table_id ≡ home → seat.me ≡ raiser_at raising.Resting (es ++ event.Gone object ∷ []) [] → object ≡ out
      → Answered home seat es object (raised.Gone out)
  answers_gone home seat es object out of is same = (event.Gone object, (sym same, refl), record { of_home = of; stands = is })

  -- the same raise, told of the object that came out of an item and of the raises that a view has
  pub answers_as : (home : TableId) (seat : Seat (Held H I) (View H I)) (es : List (RaiseEvent H I)) (object out : I) (answer : Raised H I) (tried : Standing H I) → tried ≡ raiser_at raising.Holding es (empty_slot 1 []) → object ≡ out
      → Answered home seat (raised_in tried.0) out answer → Answered home seat es object answer
  answers_as home seat es object out answer tried stands same =
      subst (λ (z : List (RaiseEvent H I) × I). Answered home seat z.0 z.1 answer) (λ k. (ap (λ (m : Standing H I). raised_in m.0) stands k, sym same k))
