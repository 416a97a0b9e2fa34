-- What the calls of both sides answer, by the state that they found.
use Rattle.std.specs.Prelude.{◌≡◌, ◌⊎◌, ◌++◌, [], ◌∷◌, List, Option, Some, None}
use Rattle.core_interrupt.specs.declared.state.State.TheVariants as state
use Rattle.core_interrupt.specs.declared.history.RaiseEvent.{RaiseEvent}
use Rattle.core_interrupt.specs.declared.history.RaiseEvent.TheVariants as event
use Rattle.core_interrupt.specs.declared.history.HearEvent.{HearEvent}
use Rattle.core_interrupt.specs.declared.history.HearEvent.TheVariants as hears
use Rattle.core_interrupt.specs.declared.hearer.Heard.{Heard}
use Rattle.core_interrupt.specs.declared.hearer.Heard.TheVariants as heard
use Rattle.core_interrupt.specs.declared.raiser.Raised.{Raised}
use Rattle.core_interrupt.specs.declared.raiser.Raised.TheVariants as raised

module _ {H I : Type 0} where
  -- Kept where Empty was found, and Call with the handler that was set and the object that waited where HasObject was.
  abbrev pub HearsAt : H → Heard H I → List (HearEvent H I) → Type 0
  HearsAt handler heard.Kept all = all ≡ hears.Kept handler ∷ []
  HearsAt handler (heard.Call h i) all = (h ≡ handler) × (all ≡ hears.Called handler i ∷ [])

  -- the object where HasObject was found, and none where Empty was
  abbrev pub EndsUnset : Option I → List (HearEvent H I) → Type 0
  EndsUnset None all = all ≡ hears.EndedEmpty ∷ []
  EndsUnset (Some i) all = all ≡ hears.EndedWithObject i ∷ []

  -- The handler that was set where HasHandler was found, and none where Called was.
  abbrev pub EndsArmed : List (HearEvent H I) → Option H → List (HearEvent H I) → Type 0
  EndsArmed before None all = all ≡ before ++ hears.EndedCalled ∷ []
  EndsArmed before (Some h) all = (before ≡ hears.Kept h ∷ []) × (all ≡ before ++ hears.EndedWithHandler h ∷ [])

  -- Kept where Empty was found, Call with the handler and this object where HasHandler was, Late with this object where HasObject or Called was, and Gone with it where Ended was.
  abbrev pub RaisesAt : I → Raised H I → RaiseEvent H I → Type 0
  RaisesAt object raised.Kept this = this ≡ event.Kept object
  RaisesAt object (raised.Call h i) this = (i ≡ object) × (this ≡ event.Called h object)
  RaisesAt object (raised.Late i) this = (i ≡ object) × ((this ≡ event.Late object state.HasObject) ⊎ (this ≡ event.Late object state.Called))
  RaisesAt object (raised.Gone i) this = (i ≡ object) × (this ≡ event.Gone object)

  -- a raise answers so, and stands behind the raises before it
  pub record Raises (object : I) (old : List (RaiseEvent H I)) (answer : Raised H I) (new : List (RaiseEvent H I)) : Type 0 where
    pub this : RaiseEvent H I
    pub answers : RaisesAt object answer this
    pub behind : new ≡ old ++ this ∷ []
