-- Interrupt histories: a merge of what one hearer and one raiser did, the oldest first, in which each call found what stood before it.
use Rattle.std.specs.Prelude.{◌≡◌, Bool, true, false, Option, Some, None, List, [], ◌∷◌, ◌++◌}
use Rattle.core_interrupt.specs.declared.state.State.{State}
use Rattle.core_interrupt.specs.declared.state.State.TheVariants as state
use Rattle.core_interrupt.specs.declared.history.RaiseEvent.{RaiseEvent}
use Rattle.core_interrupt.specs.declared.history.RaiseEvent.TheVariants as raised
use Rattle.core_interrupt.specs.declared.history.HearEvent.{HearEvent}
use Rattle.core_interrupt.specs.declared.history.HearEvent.TheVariants as heard
use Rattle.core_interrupt.specs.declared.history.Event.{Event}
use Rattle.core_interrupt.specs.declared.history.Event.TheVariants.{Hears, Raises}

-- by whether the hearer has ended, the handler that it set, and the object that was raised first
abbrev pub state_by : {H I : Type 0} → Bool → Option H → Option I → State
state_by true handler object = state.Ended
state_by false None None = state.Empty
state_by false (Some h) None = state.HasHandler
state_by false None (Some i) = state.HasObject
state_by false (Some h) (Some i) = state.Called

module _ {H I : Type 0} where
  -- the object of a raise
  abbrev pub object_of : RaiseEvent H I → I
  object_of (raised.Kept i) = i
  object_of (raised.Called h i) = i
  object_of (raised.Late i s) = i
  object_of (raised.Gone i) = i

  -- the state that a raise found
  abbrev pub found_by_raise : RaiseEvent H I → State
  found_by_raise (raised.Kept i) = state.Empty
  found_by_raise (raised.Called h i) = state.HasHandler
  found_by_raise (raised.Late i s) = s
  found_by_raise (raised.Gone i) = state.Ended

  -- the state that a call of the hearer found
  abbrev pub found_by_hearer : HearEvent H I → State
  found_by_hearer (heard.Kept h) = state.Empty
  found_by_hearer (heard.Called h i) = state.HasObject
  found_by_hearer heard.EndedEmpty = state.Empty
  found_by_hearer (heard.EndedWithObject i) = state.HasObject
  found_by_hearer (heard.EndedWithHandler h) = state.HasHandler
  found_by_hearer heard.EndedCalled = state.Called

  -- the handler that a hearer set
  abbrev pub handler_in : List (HearEvent H I) → Option H
  handler_in [] = None
  handler_in (heard.Kept h ∷ es) = Some h
  handler_in (heard.Called h i ∷ es) = Some h
  handler_in (heard.EndedEmpty ∷ es) = handler_in es
  handler_in (heard.EndedWithObject i ∷ es) = handler_in es
  handler_in (heard.EndedWithHandler h ∷ es) = handler_in es
  handler_in (heard.EndedCalled ∷ es) = handler_in es

  abbrev pub has_ended : List (HearEvent H I) → Bool
  has_ended [] = false
  has_ended (heard.Kept h ∷ es) = has_ended es
  has_ended (heard.Called h i ∷ es) = has_ended es
  has_ended (heard.EndedEmpty ∷ es) = true
  has_ended (heard.EndedWithObject i ∷ es) = true
  has_ended (heard.EndedWithHandler h ∷ es) = true
  has_ended (heard.EndedCalled ∷ es) = true

  -- the object that was raised first
  abbrev pub first_object : List (RaiseEvent H I) → Option I
  first_object [] = None
  first_object (e ∷ es) = Some (object_of e)

  -- the state that both sides' calls stand for
  abbrev pub state_from : List (HearEvent H I) → List (RaiseEvent H I) → State
  state_from hears raises = state_by (has_ended hears) (handler_in hears) (first_object raises)

  -- the hearer's part of a history, and the raiser's
  abbrev pub hears_in : List (Event H I) → List (HearEvent H I)
  hears_in [] = []
  hears_in (Hears e ∷ es) = e ∷ hears_in es
  hears_in (Raises e ∷ es) = hears_in es

  abbrev pub raises_in : List (Event H I) → List (RaiseEvent H I)
  raises_in [] = []
  raises_in (Hears e ∷ es) = raises_in es
  raises_in (Raises e ∷ es) = e ∷ raises_in es

  -- What a call got was there before it: a raise calls the handler that was set, a hearer calls its handler with the object that was raised first, and
  -- what comes back at the end is that object or that handler.
  abbrev pub GotBefore : List (Event H I) → Event H I → Type 0
  GotBefore past (Hears (heard.Kept h)) = Unit {0}
  GotBefore past (Hears (heard.Called h i)) = first_object (raises_in past) ≡ Some i
  GotBefore past (Hears heard.EndedEmpty) = Unit {0}
  GotBefore past (Hears (heard.EndedWithObject i)) = first_object (raises_in past) ≡ Some i
  GotBefore past (Hears (heard.EndedWithHandler h)) = handler_in (hears_in past) ≡ Some h
  GotBefore past (Hears heard.EndedCalled) = Unit {0}
  GotBefore past (Raises (raised.Kept i)) = Unit {0}
  GotBefore past (Raises (raised.Called h i)) = handler_in (hears_in past) ≡ Some h
  GotBefore past (Raises (raised.Late i s)) = Unit {0}
  GotBefore past (Raises (raised.Gone i)) = Unit {0}

  abbrev pub found_by : Event H I → State
  found_by (Hears e) = found_by_hearer e
  found_by (Raises e) = found_by_raise e

  -- a call found the state that all calls before it stand for
  pub record FitsAfter (past : List (Event H I)) (e : Event H I) : Type 0 where
    pub found : found_by e ≡ state_from (hears_in past) (raises_in past)
    pub got : GotBefore past e

  -- each call fits after those before it
  abbrev pub IsLawful : List (Event H I) → Type 0
  IsLawful past = (front back : List (Event H I)) (e : Event H I) → past ≡ front ++ e ∷ back → FitsAfter front e

  -- These calls of a hearer and those of a raiser have a lawful merge.
  pub record InterruptHistory (hears : List (HearEvent H I)) (raises : List (RaiseEvent H I)) : Type 0 where
    pub past : List (Event H I)
    pub lawful : IsLawful past
    pub hears_are : hears_in past ≡ hears
    pub raises_are : raises_in past ≡ raises

  -- each of these raises came after the hearer had ended
  abbrev pub OnlyGone : List (RaiseEvent H I) → Type 0
  OnlyGone [] = Unit {0}
  OnlyGone (raised.Kept i ∷ es) = ⊥
  OnlyGone (raised.Called h i ∷ es) = ⊥
  OnlyGone (raised.Late i s ∷ es) = ⊥
  OnlyGone (raised.Gone i ∷ es) = OnlyGone es

  -- each of these raises got its object back
  abbrev pub AllCameBack : List (RaiseEvent H I) → Type 0
  AllCameBack [] = Unit {0}
  AllCameBack (raised.Kept i ∷ es) = ⊥
  AllCameBack (raised.Called h i ∷ es) = ⊥
  AllCameBack (raised.Late i s ∷ es) = AllCameBack es
  AllCameBack (raised.Gone i ∷ es) = AllCameBack es

  -- the first raise kept this object, and each later one got its own back
  abbrev pub FirstKept : I → List (RaiseEvent H I) → Type 0
  FirstKept object [] = ⊥
  FirstKept object (raised.Kept i ∷ es) = (i ≡ object) × AllCameBack es
  FirstKept object (raised.Called h i ∷ es) = ⊥
  FirstKept object (raised.Late i s ∷ es) = ⊥
  FirstKept object (raised.Gone i ∷ es) = ⊥

  -- the first raise called this handler, and each later one got its object back
  abbrev pub FirstCalled : H → List (RaiseEvent H I) → Type 0
  FirstCalled handler [] = ⊥
  FirstCalled handler (raised.Kept i ∷ es) = ⊥
  FirstCalled handler (raised.Called h i ∷ es) = (h ≡ handler) × AllCameBack es
  FirstCalled handler (raised.Late i s ∷ es) = ⊥
  FirstCalled handler (raised.Gone i ∷ es) = ⊥

  -- nothing was raised, or the first raise called this handler
  abbrev pub NoneOrCalled : H → List (RaiseEvent H I) → Type 0
  NoneOrCalled handler [] = Unit {0}
  NoneOrCalled handler (e ∷ es) = FirstCalled handler (e ∷ es)

  -- nothing was raised, or the first raise kept its object, and each later one got its own back
  abbrev pub NoneOrKept : List (RaiseEvent H I) → Type 0
  NoneOrKept [] = Unit {0}
  NoneOrKept (raised.Kept i ∷ es) = AllCameBack es
  NoneOrKept (raised.Called h i ∷ es) = ⊥
  NoneOrKept (raised.Late i s ∷ es) = ⊥
  NoneOrKept (raised.Gone i ∷ es) = ⊥

  -- What the raises say beside a hearer that set this handler and found Empty, by what its end found, where it has ended
  abbrev pub AgreesKept : H → List (HearEvent H I) → List (RaiseEvent H I) → Type 0
  AgreesKept handler [] raises = NoneOrCalled handler raises
  AgreesKept handler (heard.Kept h ∷ es) raises = ⊥
  AgreesKept handler (heard.Called h i ∷ es) raises = ⊥
  AgreesKept handler (heard.EndedEmpty ∷ es) raises = ⊥
  AgreesKept handler (heard.EndedWithObject i ∷ es) raises = ⊥
  AgreesKept handler (heard.EndedWithHandler h ∷ es) raises = (h ≡ handler) × OnlyGone raises
  AgreesKept handler (heard.EndedCalled ∷ es) raises = FirstCalled handler raises

  -- What a hearer and a raiser say of each other. A handler is called once at most: by the first raise, where the handler was set before it, or by the
  -- hearer, with the object that the first raise kept. Where nobody called, what was set or kept before the end came back at the end. All else came back
  -- from its own raise.
  abbrev pub SidesAgree : List (HearEvent H I) → List (RaiseEvent H I) → Type 0
  SidesAgree [] raises = NoneOrKept raises
  SidesAgree (heard.Kept h ∷ es) raises = AgreesKept h es raises
  SidesAgree (heard.Called h i ∷ es) raises = FirstKept i raises
  SidesAgree (heard.EndedEmpty ∷ es) raises = OnlyGone raises
  SidesAgree (heard.EndedWithObject i ∷ es) raises = FirstKept i raises
  SidesAgree (heard.EndedWithHandler h ∷ es) raises = ⊥
  SidesAgree (heard.EndedCalled ∷ es) raises = ⊥
