-- The deferral rule: what the word, the slot and the views of a home's table stand for between any two steps.
use Rattle.std.specs.Prelude.{◌≡◌, ℕ, ◌⊎◌, Bool, true, false, ◌||◌, List, [], ◌∷◌, Option, None}
use mathlib.Core.Option as maybe
use Rattle.atomic_table.specs.Table.{State}
use Rattle.semi_defer.specs.declared.view.Adding.{Adding}
use Rattle.semi_defer.specs.declared.view.Choosing.{Choosing}
use Rattle.semi_defer.specs.declared.view.View.{View}
use Rattle.semi_defer.specs.declared.view.View.TheVariants as view
use Rattle.semi_defer.specs.State.{code_of}
use Rattle.semi_defer.specs.Views.{state_from, adder_has_slot, holder_has_slot, job_held, Fit}

-- the state of a table whose slot holds a job, if one is there
abbrev pub TableState : Type 0 → Type 0
TableState J = State (Option J) (View J)

module _ {J : Type 0} where
  abbrev pub place : Bool → Option J → maybe.Option (Option J)
  place true held = maybe.none
  place false held = maybe.some held

  abbrev pub words_of : Adding J → Choosing J → List ℕ
  words_of a h = code_of (state_from a h) ∷ []

  abbrev pub homes_of : Adding J → Choosing J → List (maybe.Option (Option J))
  homes_of a h = place (adder_has_slot a || holder_has_slot h) (job_held a h) ∷ []

  -- nobody has the pair yet
  pub record Unpaired (s : TableState J) : Type 0 where
    pub views : s.views ≡ view.Pair ∷ []
    pub words : s.words ≡ 0 ∷ []
    pub homes : s.homes ≡ maybe.some None ∷ []

  -- an adder and a holder decide what the word and the slot are
  pub record Paired (s : TableState J) : Type 0 where
    pub a : Adding J
    pub h : Choosing J
    pub views : s.views ≡ view.Adder a ∷ view.Holder h ∷ []
    pub words : s.words ≡ words_of a h
    pub homes : s.homes ≡ homes_of a h
    pub fit : Fit a h

  -- the same where one seat has both views
  pub record Together (s : TableState J) : Type 0 where
    pub a : Adding J
    pub h : Choosing J
    pub views : s.views ≡ view.Both a h ∷ view.Spent ∷ []
    pub words : s.words ≡ words_of a h
    pub homes : s.homes ≡ homes_of a h
    pub fit : Fit a h

  abbrev pub DeferHolds : TableState J → Type 0
  DeferHolds s = Unpaired s ⊎ (Paired s ⊎ Together s)
