-- What each step on a home's table tells its caller, and where a seat then stands: its view, and the slots that it has with what they hold.
use Rattle.std.specs.Prelude.{◌≡◌, ◌≢◌, ℕ, List, [], ◌∷◌, ◌++◌, Option, Some, None}
use mathlib.Core.Option as maybe
use Rattle.atomic_table.specs.Table.{Me, Step}
use Rattle.atomic_table.specs.Seated.{TableId}
use Rattle.atomic_table.specs.declared.shared.Seat.{Seat}
use Rattle.core_interrupt.specs.declared.state.State.{State}
use Rattle.core_interrupt.specs.declared.state.State.TheVariants as state
use Rattle.core_interrupt.specs.declared.history.RaiseEvent.{RaiseEvent}
use Rattle.core_interrupt.specs.declared.history.RaiseEvent.TheVariants as raised
use Rattle.core_interrupt.specs.declared.view.HearerEnd.{HearerEnd}
use Rattle.core_interrupt.specs.declared.view.HearerEnd.TheVariants as end
use Rattle.core_interrupt.specs.declared.view.Item.TheVariants as item
use Rattle.core_interrupt.specs.declared.view.Hearing.{Hearing}
use Rattle.core_interrupt.specs.declared.view.Hearing.TheVariants as hearing
use Rattle.core_interrupt.specs.declared.view.Raising.{Raising}
use Rattle.core_interrupt.specs.declared.view.Raising.TheVariants as raising
use Rattle.core_interrupt.specs.declared.view.View.{View}
use Rattle.core_interrupt.specs.declared.view.View.TheVariants as view
use Rattle.core_interrupt.specs.State.{code_of}
use Rattle.core_interrupt.specs.History.{InterruptHistory, SidesAgree}
use Rattle.core_interrupt.specs.Views.{Held, heard_in, raised_in}

-- where a seat stands
abbrev pub Standing : Type 0 → Type 0 → Type 0
Standing H I = Me (Held H I) (View H I)

-- a home has one word and two slots
pub record IsHome (home : TableId) : Type 0 where
  pub words : home.words ≡ 1
  pub slots : home.slots ≡ 2

module _ {H I : Type 0} where
  -- a seat of this home stands so
  pub record Sits (home : TableId) (seat : Seat (Held H I) (View H I)) (standing : Standing H I) : Type 0 where
    pub of_home : seat.table_id ≡ home
    pub stands : seat.me ≡ standing

  abbrev pub hearer_at : Hearing H I → List (ℕ × Held H I) → Standing H I
  hearer_at p slots = (view.Hearer p, slots)

  abbrev pub raiser_at : Raising → List (RaiseEvent H I) → List (ℕ × Held H I) → Standing H I
  raiser_at r es slots = (view.Raiser r es, slots)

  -- a slot that is out, empty, with this handler, or with this object
  abbrev pub empty_slot : ℕ → List (ℕ × Held H I) → List (ℕ × Held H I)
  empty_slot k slots = (k, None) ∷ slots

  abbrev pub with_handler : H → List (ℕ × Held H I) → List (ℕ × Held H I)
  with_handler h slots = (0, Some (item.Handler h)) ∷ slots

  abbrev pub with_object : I → List (ℕ × Held H I) → List (ℕ × Held H I)
  with_object i slots = (1, Some (item.Object i)) ∷ slots

  -- a hearer that set a handler, between two calls
  abbrev pub armed : H → Option I → Hearing H I
  armed h None = hearing.Set h
  armed h (Some i) = hearing.Called h i

  -- what a hearer came to that found Called at its end
  abbrev pub called_end : H → Option I → HearerEnd H I
  called_end h None = end.WasCalled h
  called_end h (Some i) = end.HasCalled h i

  -- the view of a side that has given its slots back
  abbrev pub rested : View H I → View H I
  rested view.Pair = view.Pair
  rested (view.Hearer hearing.Ready) = view.Hearer hearing.Ready
  rested (view.Hearer hearing.Holding) = view.Hearer hearing.Holding
  rested (view.Hearer hearing.Aware) = view.Hearer hearing.Aware
  rested (view.Hearer (hearing.Set h)) = view.Hearer (hearing.Set h)
  rested (view.Hearer (hearing.Calling h i)) = view.Hearer (hearing.Called h i)
  rested (view.Hearer (hearing.Called h i)) = view.Hearer (hearing.Called h i)
  rested (view.Hearer (hearing.Ending e)) = view.Hearer (hearing.Ended e)
  rested (view.Hearer (hearing.Ended e)) = view.Hearer (hearing.Ended e)
  rested (view.Raiser r es) = view.Raiser raising.Resting es
  rested (view.Both p es) = view.Both p es
  rested view.Spent = view.Spent

  -- a hearer takes the handler's slot, which is empty
  abbrev pub takes_slot : Standing H I → ℕ → Standing H I → Type 0
  takes_slot before found after = after ≡ hearer_at hearing.Holding (empty_slot 0 [])

  -- A hearer's exchange from Empty. It sets its handler, or sees that an object waits.
  abbrev pub sets : Standing H I → ℕ → Standing H I → Type 0
  sets before found after = (h : H) → before.1 ≡ with_handler h []
      → (found ≡ 0 → after ≡ hearer_at (hearing.Set h) []) × (found ≢ 0 → after ≡ hearer_at hearing.Aware before.1)

  -- A hearer's exchange from HasObject. It sets its handler, and takes the object.
  abbrev pub meets : Standing H I → ℕ → Standing H I → Type 0
  meets before found after = (h : H) → before.1 ≡ with_handler h []
      → (i : I) × (after ≡ hearer_at (hearing.Calling h i) (with_object i (with_handler h [])))

  -- a side gives its slots back
  abbrev pub gives_back : Standing H I → ℕ → Standing H I → Type 0
  gives_back before found after = after ≡ (rested before.0, [])

  -- A hearer that has set nothing ends. It takes the object where one waits.
  abbrev pub ends_unset : Standing H I → ℕ → Standing H I → Type 0
  ends_unset before found after =
      (found ≡ 2 → (i : I) × (after ≡ hearer_at (hearing.Ending (end.ObjectBack i)) (with_object i [])))
      × (found ≢ 2 → after ≡ hearer_at (hearing.Ended end.Unset) [])

  -- A hearer that has set a handler ends. It takes the handler where nobody called it.
  abbrev pub ends_armed : Standing H I → ℕ → Standing H I → Type 0
  ends_armed before found after =
      (found ≡ 1 → (h : H) × (before.0 ≡ view.Hearer (hearing.Set h)) × (after ≡ hearer_at (hearing.Ending (end.HandlerBack h)) (with_handler h [])))
      × (found ≢ 1 → (h : H) × (got : Option I) × (before.0 ≡ view.Hearer (armed h got)) × (after ≡ hearer_at (hearing.Ended (called_end h got)) []))

  -- A raiser's exchange from HasHandler, by the state that it found. It calls the handler, gets its object back, or takes the object's slot.
  abbrev pub TriesAt : State → List (RaiseEvent H I) → I → Standing H I → Type 0
  TriesAt state.Empty es i after = after ≡ raiser_at raising.Holding es (empty_slot 1 [])
  TriesAt state.HasHandler es i after = (h : H) × (after ≡ raiser_at raising.Calling (es ++ raised.Called h i ∷ []) (with_handler h []))
  TriesAt state.HasObject es i after = after ≡ raiser_at raising.Resting (es ++ raised.Late i state.HasObject ∷ []) []
  TriesAt state.Called es i after = after ≡ raiser_at raising.Resting (es ++ raised.Late i state.Called ∷ []) []
  TriesAt state.Ended es i after = after ≡ raiser_at raising.Resting (es ++ raised.Gone i ∷ []) []

  abbrev pub tries : Step (Held H I) → Standing H I → ℕ → Standing H I → Type 0
  tries st before found after = (s : State) × (found ≡ code_of s) × ((i : I) → st.said ≡ maybe.some (Some (item.Object i)) → TriesAt s (raised_in before.0) i after)

  -- A raiser's exchange from Empty. Its object is kept, or it sees that the hearer has acted.
  abbrev pub places : Standing H I → ℕ → Standing H I → Type 0
  places before found after = (i : I) → before.1 ≡ with_object i []
      → (found ≡ 0 → after ≡ raiser_at raising.Resting (raised_in before.0 ++ raised.Kept i ∷ []) [])
      × (found ≢ 0 → after ≡ raiser_at raising.Aware (raised_in before.0) before.1)

  -- A raiser's exchange from HasHandler after that. It calls the handler, or gets its object back. It gives the object's slot back.
  abbrev pub tries_again : Step (Held H I) → Standing H I → ℕ → Standing H I → Type 0
  tries_again st before found after = (i : I) → st.said ≡ maybe.some (Some (item.Object i))
      → (found ≡ 1 → (h : H) × (after ≡ raiser_at raising.Calling (raised_in before.0 ++ raised.Called h i ∷ []) (with_handler h [])))
      × (found ≢ 1 → after ≡ raiser_at raising.Resting (raised_in before.0 ++ raised.Gone i ∷ []) [])

  -- a seat that has both views sees that they agree
  abbrev pub compares : Standing H I → ℕ → Standing H I → Type 0
  compares before found after = SidesAgree (heard_in before.0) (raised_in before.0) × InterruptHistory (heard_in before.0) (raised_in before.0)

  -- the maker of the pair becomes the hearer, and a new seat the raiser
  abbrev pub begin_hearer : View H I → View H I
  begin_hearer view.Pair = view.Hearer hearing.Ready
  begin_hearer (view.Hearer p) = view.Hearer p
  begin_hearer (view.Raiser r es) = view.Raiser r es
  begin_hearer (view.Both p es) = view.Both p es
  begin_hearer view.Spent = view.Spent

  abbrev pub begin_raiser : View H I → View H I
  begin_raiser view.Pair = view.Raiser raising.Resting []
  begin_raiser (view.Hearer p) = view.Spent
  begin_raiser (view.Raiser r es) = view.Spent
  begin_raiser (view.Both p es) = view.Spent
  begin_raiser view.Spent = view.Spent

  -- a hearer's view and a raiser's, put together
  abbrev pub both_views : View H I → View H I → View H I
  both_views (view.Hearer p) (view.Raiser r es) = view.Both p es
  both_views v w = view.Spent

  -- where the pair wasn't taken, its maker's seat is there
  abbrev pub HasPair : TableId → Option (Seat (Held H I) (View H I)) → Type 0
  HasPair home None = Unit {0}
  HasPair home (Some seat) = Sits home seat (view.Pair, [])
