-- The interrupt rule: what the word, the slots at home and the views of a home's table stand for between any two steps.
use Rattle.std.specs.Prelude.{◌≡◌, ℕ, ◌⊎◌, Bool, true, false, ◌||◌, List, [], ◌∷◌, None}
use mathlib.Core.Option as maybe
use Rattle.atomic_table.specs.Table.{State}
use Rattle.core_interrupt.specs.declared.history.RaiseEvent.{RaiseEvent}
use Rattle.core_interrupt.specs.declared.view.Hearing.{Hearing}
use Rattle.core_interrupt.specs.declared.view.Raising.{Raising}
use Rattle.core_interrupt.specs.declared.view.Raising.TheVariants as raising
use Rattle.core_interrupt.specs.declared.view.View.{View}
use Rattle.core_interrupt.specs.declared.view.View.TheVariants as view
use Rattle.core_interrupt.specs.State.{code_of}
use Rattle.core_interrupt.specs.History.{state_from, InterruptHistory}
use Rattle.core_interrupt.specs.Views.{Held, Place, raiser_has_handler, raiser_has_object, hears_of, hearer_has_handler, hearer_has_object, handler_held, object_held, Fit}

-- the state of a table whose slots hold items and whose seats have views of an interrupt
abbrev pub TableState : Type 0 → Type 0 → Type 0
TableState H I = State (Held H I) (View H I)

module _ {H I : Type 0} where
  abbrev pub place : Bool → Held H I → Place H I
  place true held = maybe.none
  place false held = maybe.some held

  abbrev pub words_of : Hearing H I → List (RaiseEvent H I) → List ℕ
  words_of p es = code_of (state_from (hears_of p) es) ∷ []

  -- the slots for the handler and the object
  abbrev pub homes_of : Hearing H I → Raising → List (RaiseEvent H I) → List (Place H I)
  homes_of p r es = place (hearer_has_handler p || raiser_has_handler r) (handler_held p es) ∷ place (hearer_has_object p || raiser_has_object r) (object_held p es) ∷ []

  -- nobody has the pair yet
  pub record Unpaired (s : TableState H I) : Type 0 where
    pub views : s.views ≡ view.Pair ∷ []
    pub words : s.words ≡ 0 ∷ []
    pub homes : s.homes ≡ maybe.some None ∷ maybe.some None ∷ []

  -- A hearer and a raiser decide what the word and the slots are, and what they have done has a lawful merge.
  pub record Paired (s : TableState H I) : Type 0 where
    pub p : Hearing H I
    pub r : Raising
    pub raises : List (RaiseEvent H I)
    pub views : s.views ≡ view.Hearer p ∷ view.Raiser r raises ∷ []
    pub words : s.words ≡ words_of p raises
    pub homes : s.homes ≡ homes_of p r raises
    pub fit : Fit p r raises
    pub history : InterruptHistory (hears_of p) raises

  -- the same where one seat has both views, between two calls
  pub record Together (s : TableState H I) : Type 0 where
    pub p : Hearing H I
    pub raises : List (RaiseEvent H I)
    pub views : s.views ≡ view.Both p raises ∷ view.Spent ∷ []
    pub words : s.words ≡ words_of p raises
    pub homes : s.homes ≡ homes_of p raising.Resting raises
    pub fit : Fit p raising.Resting raises
    pub history : InterruptHistory (hears_of p) raises

  abbrev pub InterruptHolds : TableState H I → Type 0
  InterruptHolds s = Unpaired s ⊎ (Paired s ⊎ Together s)
