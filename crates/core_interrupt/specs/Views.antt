-- What a view says of its side: what it has done, and which slots it has.
use Rattle.std.specs.Prelude.{◌≡◌, Bool, true, false, ◌||◌, Option, Some, None, List, [], ◌∷◌, ◌++◌}
use mathlib.Core.Option as maybe
use Rattle.core_interrupt.specs.declared.state.State.{State}
use Rattle.core_interrupt.specs.declared.history.RaiseEvent.{RaiseEvent}
use Rattle.core_interrupt.specs.declared.history.RaiseEvent.TheVariants as raised
use Rattle.core_interrupt.specs.declared.history.HearEvent.{HearEvent}
use Rattle.core_interrupt.specs.declared.history.HearEvent.TheVariants as heard
use Rattle.core_interrupt.specs.declared.view.HearerEnd.{HearerEnd}
use Rattle.core_interrupt.specs.declared.view.HearerEnd.TheVariants as end
use Rattle.core_interrupt.specs.declared.view.Item.{Item}
use Rattle.core_interrupt.specs.declared.view.Item.TheVariants as item
use Rattle.core_interrupt.specs.declared.view.Hearing.{Hearing}
use Rattle.core_interrupt.specs.declared.view.Hearing.TheVariants as hearing
use Rattle.core_interrupt.specs.declared.view.Raising.{Raising}
use Rattle.core_interrupt.specs.declared.view.Raising.TheVariants as raising
use Rattle.core_interrupt.specs.declared.view.View.{View}
use Rattle.core_interrupt.specs.declared.view.View.TheVariants as view
use Rattle.core_interrupt.specs.History.{AllCameBack, SidesAgree}

-- what a slot holds
abbrev pub Held : Type 0 → Type 0 → Type 0
Held H I = Option (Item H I)

-- a slot of the table: out with a seat, or at home with what it holds
abbrev pub Place : Type 0 → Type 0 → Type 0
Place H I = maybe.Option (Held H I)

abbrev pub raiser_has_handler : Raising → Bool
raiser_has_handler raising.Resting = false
raiser_has_handler raising.Holding = false
raiser_has_handler raising.Aware = false
raiser_has_handler raising.Calling = true

abbrev pub raiser_has_object : Raising → Bool
raiser_has_object raising.Resting = false
raiser_has_object raising.Holding = true
raiser_has_object raising.Aware = true
raiser_has_object raising.Calling = false

module _ {H I : Type 0} where
  -- what a hearer has done that has ended
  abbrev pub hears_at_end : HearerEnd H I → List (HearEvent H I)
  hears_at_end end.Unset = heard.EndedEmpty ∷ []
  hears_at_end (end.ObjectBack i) = heard.EndedWithObject i ∷ []
  hears_at_end (end.HandlerBack h) = heard.Kept h ∷ heard.EndedWithHandler h ∷ []
  hears_at_end (end.WasCalled h) = heard.Kept h ∷ heard.EndedCalled ∷ []
  hears_at_end (end.HasCalled h i) = heard.Called h i ∷ heard.EndedCalled ∷ []

  -- what a hearer has done
  abbrev pub hears_of : Hearing H I → List (HearEvent H I)
  hears_of hearing.Ready = []
  hears_of hearing.Holding = []
  hears_of hearing.Aware = []
  hears_of (hearing.Set h) = heard.Kept h ∷ []
  hears_of (hearing.Calling h i) = heard.Called h i ∷ []
  hears_of (hearing.Called h i) = heard.Called h i ∷ []
  hears_of (hearing.Ending e) = hears_at_end e
  hears_of (hearing.Ended e) = hears_at_end e

  -- which end gives a slot back
  abbrev pub end_has_handler : HearerEnd H I → Bool
  end_has_handler end.Unset = false
  end_has_handler (end.ObjectBack i) = false
  end_has_handler (end.HandlerBack h) = true
  end_has_handler (end.WasCalled h) = false
  end_has_handler (end.HasCalled h i) = false

  abbrev pub end_has_object : HearerEnd H I → Bool
  end_has_object end.Unset = false
  end_has_object (end.ObjectBack i) = true
  end_has_object (end.HandlerBack h) = false
  end_has_object (end.WasCalled h) = false
  end_has_object (end.HasCalled h i) = false

  abbrev pub hearer_has_handler : Hearing H I → Bool
  hearer_has_handler hearing.Ready = false
  hearer_has_handler hearing.Holding = true
  hearer_has_handler hearing.Aware = true
  hearer_has_handler (hearing.Set h) = false
  hearer_has_handler (hearing.Calling h i) = true
  hearer_has_handler (hearing.Called h i) = false
  hearer_has_handler (hearing.Ending e) = end_has_handler e
  hearer_has_handler (hearing.Ended e) = false

  abbrev pub hearer_has_object : Hearing H I → Bool
  hearer_has_object hearing.Ready = false
  hearer_has_object hearing.Holding = false
  hearer_has_object hearing.Aware = false
  hearer_has_object (hearing.Set h) = false
  hearer_has_object (hearing.Calling h i) = true
  hearer_has_object (hearing.Called h i) = false
  hearer_has_object (hearing.Ending e) = end_has_object e
  hearer_has_object (hearing.Ended e) = false

  -- a handler is at home where it was set and nothing was raised
  abbrev pub handler_held : Hearing H I → List (RaiseEvent H I) → Held H I
  handler_held hearing.Ready es = None
  handler_held hearing.Holding es = None
  handler_held hearing.Aware es = None
  handler_held (hearing.Set h) [] = Some (item.Handler h)
  handler_held (hearing.Set h) (e ∷ es) = None
  handler_held (hearing.Calling h i) es = None
  handler_held (hearing.Called h i) es = None
  handler_held (hearing.Ending e) es = None
  handler_held (hearing.Ended e) es = None

  -- the object of the first raise
  abbrev pub first_held : List (RaiseEvent H I) → Held H I
  first_held [] = None
  first_held (raised.Kept i ∷ es) = Some (item.Object i)
  first_held (raised.Called h i ∷ es) = None
  first_held (raised.Late i s ∷ es) = None
  first_held (raised.Gone i ∷ es) = None

  -- an object is at home where it was kept and the hearer has done nothing
  abbrev pub object_held : Hearing H I → List (RaiseEvent H I) → Held H I
  object_held hearing.Ready es = first_held es
  object_held hearing.Holding es = first_held es
  object_held hearing.Aware es = first_held es
  object_held (hearing.Set h) es = None
  object_held (hearing.Calling h i) es = None
  object_held (hearing.Called h i) es = None
  object_held (hearing.Ending e) es = None
  object_held (hearing.Ended e) es = None

  -- the first raise kept its object, and each later one got its own back
  abbrev pub SomeKept : List (RaiseEvent H I) → Type 0
  SomeKept [] = ⊥
  SomeKept (raised.Kept i ∷ es) = AllCameBack es
  SomeKept (raised.Called h i ∷ es) = ⊥
  SomeKept (raised.Late i s ∷ es) = ⊥
  SomeKept (raised.Gone i ∷ es) = ⊥

  -- where a hearer has seen that an object waits, one does
  abbrev pub AwareFits : Hearing H I → List (RaiseEvent H I) → Type 0
  AwareFits hearing.Ready es = Unit {0}
  AwareFits hearing.Holding es = Unit {0}
  AwareFits hearing.Aware es = SomeKept es
  AwareFits (hearing.Set h) es = Unit {0}
  AwareFits (hearing.Calling h i) es = Unit {0}
  AwareFits (hearing.Called h i) es = Unit {0}
  AwareFits (hearing.Ending e) es = Unit {0}
  AwareFits (hearing.Ended e) es = Unit {0}

  -- the hearer has set a handler or ended, and found Empty or HasHandler as it did
  abbrev pub IsFirst : Hearing H I → Type 0
  IsFirst hearing.Ready = ⊥
  IsFirst hearing.Holding = ⊥
  IsFirst hearing.Aware = ⊥
  IsFirst (hearing.Set h) = Unit {0}
  IsFirst (hearing.Calling h i) = ⊥
  IsFirst (hearing.Called h i) = ⊥
  IsFirst (hearing.Ending e) = Unit {0}
  IsFirst (hearing.Ended e) = Unit {0}

  -- a raiser that has called the handler
  abbrev pub HasCalled : List (RaiseEvent H I) → Type 0
  HasCalled [] = ⊥
  HasCalled (raised.Kept i ∷ es) = ⊥
  HasCalled (raised.Called h i ∷ es) = Unit {0}
  HasCalled (raised.Late i s ∷ es) = ⊥
  HasCalled (raised.Gone i ∷ es) = ⊥

  -- the slot that a raiser has fits what it has done
  abbrev pub HandFits : Hearing H I → Raising → List (RaiseEvent H I) → Type 0
  HandFits p raising.Resting es = Unit {0}
  HandFits p raising.Holding es = es ≡ []
  HandFits p raising.Aware es = (es ≡ []) × IsFirst p
  HandFits p raising.Calling es = HasCalled es

  -- what both sides have done agrees, and so does what each has seen and has in its hands
  pub record Fit (p : Hearing H I) (r : Raising) (es : List (RaiseEvent H I)) : Type 0 where
    pub calls : SidesAgree (hears_of p) es
    pub aware : AwareFits p es
    pub hand : HandFits p r es

  -- what a view says that its hearer has done, and its raiser
  abbrev pub heard_in : View H I → List (HearEvent H I)
  heard_in view.Pair = []
  heard_in (view.Hearer p) = hears_of p
  heard_in (view.Raiser r es) = []
  heard_in (view.Both p es) = hears_of p
  heard_in view.Spent = []

  abbrev pub raised_in : View H I → List (RaiseEvent H I)
  raised_in view.Pair = []
  raised_in (view.Hearer p) = []
  raised_in (view.Raiser r es) = es
  raised_in (view.Both p es) = es
  raised_in view.Spent = []

  -- a hearer that has set a handler, between two calls
  abbrev pub IsArmed : Hearing H I → Type 0
  IsArmed hearing.Ready = ⊥
  IsArmed hearing.Holding = ⊥
  IsArmed hearing.Aware = ⊥
  IsArmed (hearing.Set h) = Unit {0}
  IsArmed (hearing.Calling h i) = ⊥
  IsArmed (hearing.Called h i) = Unit {0}
  IsArmed (hearing.Ending e) = ⊥
  IsArmed (hearing.Ended e) = ⊥

  -- a hearer that has ended, between two calls
  abbrev pub HasEnded : Hearing H I → Type 0
  HasEnded hearing.Ready = ⊥
  HasEnded hearing.Holding = ⊥
  HasEnded hearing.Aware = ⊥
  HasEnded (hearing.Set h) = ⊥
  HasEnded (hearing.Calling h i) = ⊥
  HasEnded (hearing.Called h i) = ⊥
  HasEnded (hearing.Ending e) = ⊥
  HasEnded (hearing.Ended e) = Unit {0}

  abbrev pub IfHearer : View H I → (Hearing H I → Type 0) → Type 0
  IfHearer view.Pair P = ⊥
  IfHearer (view.Hearer p) P = P p
  IfHearer (view.Raiser r es) P = ⊥
  IfHearer (view.Both p es) P = ⊥
  IfHearer view.Spent P = ⊥
