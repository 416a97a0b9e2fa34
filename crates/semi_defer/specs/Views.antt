-- What a view says of its side: what it has done, and whether it has the slot.
use Rattle.std.specs.Prelude.{◌≡◌, ◌<◌, ◌^◌, ◌+◌, Bool, true, false, Option, Some, None}
use Rattle.semi_defer.specs.declared.state.State.{State}
use Rattle.semi_defer.specs.declared.state.State.TheVariants as state
use Rattle.semi_defer.specs.declared.state.Chosen.{Chosen}
use Rattle.semi_defer.specs.declared.history.AddEvent.{AddEvent}
use Rattle.semi_defer.specs.declared.history.AddEvent.TheVariants as added
use Rattle.semi_defer.specs.declared.history.ChooseEvent.{ChooseEvent}
use Rattle.semi_defer.specs.declared.history.ChooseEvent.TheVariants as chose
use Rattle.semi_defer.specs.declared.view.Adding.{Adding}
use Rattle.semi_defer.specs.declared.view.Adding.TheVariants as adding
use Rattle.semi_defer.specs.declared.view.Choosing.{Choosing}
use Rattle.semi_defer.specs.declared.view.Choosing.TheVariants as choosing
use Rattle.semi_defer.specs.declared.view.View.{View}
use Rattle.semi_defer.specs.declared.view.View.TheVariants as view
use Rattle.semi_defer.specs.State.{word_of}
use Rattle.semi_defer.specs.History.{state_of_choice}

module _ {J : Type 0} where
  -- what an adder has done
  abbrev pub add_of : Adding J → Option (AddEvent J)
  add_of adding.Ready = None
  add_of adding.Holding = None
  add_of (adding.Kept job) = Some (added.Kept job)
  add_of (adding.Returning job what) = Some (added.Late job what)
  add_of (adding.Late job what) = Some (added.Late job what)

  abbrev pub got_event : Chosen → Option J → ChooseEvent J
  got_event what None = chose.First what
  got_event what (Some job) = chose.Got what job

  -- what a holder has done
  abbrev pub choice_of : Choosing J → Option (ChooseEvent J)
  choice_of choosing.Ready = None
  choice_of (choosing.Taking what job) = Some (chose.Got what job)
  choice_of (choosing.Chose what got) = Some (got_event what got)

  abbrev pub adder_has_slot : Adding J → Bool
  adder_has_slot adding.Ready = false
  adder_has_slot adding.Holding = true
  adder_has_slot (adding.Kept job) = false
  adder_has_slot (adding.Returning job what) = true
  adder_has_slot (adding.Late job what) = false

  abbrev pub holder_has_slot : Choosing J → Bool
  holder_has_slot choosing.Ready = false
  holder_has_slot (choosing.Taking what job) = true
  holder_has_slot (choosing.Chose what got) = false

  -- a job is at home where it was added and nothing was chosen
  abbrev pub job_held : Adding J → Choosing J → Option J
  job_held adding.Ready h = None
  job_held adding.Holding h = None
  job_held (adding.Kept job) choosing.Ready = Some job
  job_held (adding.Kept job) (choosing.Taking what got) = None
  job_held (adding.Kept job) (choosing.Chose what got) = None
  job_held (adding.Returning job what) h = None
  job_held (adding.Late job what) h = None

  -- the state that both sides' acts stand for
  abbrev pub state_unchosen : Adding J → State
  state_unchosen adding.Ready = state.Empty
  state_unchosen adding.Holding = state.Empty
  state_unchosen (adding.Kept job) = state.HasFunction
  state_unchosen (adding.Returning job what) = state.Empty
  state_unchosen (adding.Late job what) = state.Empty

  abbrev pub state_from : Adding J → Choosing J → State
  state_from a choosing.Ready = state_unchosen a
  state_from a (choosing.Taking what job) = state_of_choice what
  state_from a (choosing.Chose what got) = state_of_choice what

  -- what was chosen before a job came
  abbrev pub ChoseFirst : Choosing J → Type 0
  ChoseFirst choosing.Ready = Unit {0}
  ChoseFirst (choosing.Taking what job) = ⊥
  ChoseFirst (choosing.Chose what got) = got ≡ None

  abbrev pub ChoseThis : Chosen → Choosing J → Type 0
  ChoseThis found choosing.Ready = ⊥
  ChoseThis found (choosing.Taking what job) = ⊥
  ChoseThis found (choosing.Chose what got) = (found ≡ what) × (got ≡ None)

  abbrev pub GotThis : J → Choosing J → Type 0
  GotThis job choosing.Ready = Unit {0}
  GotThis job (choosing.Taking what got) = got ≡ job
  GotThis job (choosing.Chose what got) = got ≡ Some job

  -- what both sides have done fits together
  abbrev pub ActsFit : Adding J → Choosing J → Type 0
  ActsFit adding.Ready h = ChoseFirst h
  ActsFit adding.Holding h = ChoseFirst h
  ActsFit (adding.Kept job) h = GotThis job h
  ActsFit (adding.Returning job what) h = ChoseThis what h
  ActsFit (adding.Late job what) h = ChoseThis what h

  -- an executor's number is one of 32 bits
  abbrev pub IsInRange : Choosing J → Type 0
  IsInRange choosing.Ready = Unit {0}
  IsInRange (choosing.Taking what job) = word_of what < 2 ^ 32 + 3
  IsInRange (choosing.Chose what got) = word_of what < 2 ^ 32 + 3

  pub record Fit (a : Adding J) (h : Choosing J) : Type 0 where
    pub acts : ActsFit a h
    pub range : IsInRange h

  -- what a view says that its side has done
  abbrev pub add_in : View J → Option (AddEvent J)
  add_in view.Pair = None
  add_in (view.Adder a) = add_of a
  add_in (view.Holder h) = None
  add_in (view.Both a h) = add_of a
  add_in view.Spent = None

  abbrev pub choice_in : View J → Option (ChooseEvent J)
  choice_in view.Pair = None
  choice_in (view.Adder a) = None
  choice_in (view.Holder h) = choice_of h
  choice_in (view.Both a h) = choice_of h
  choice_in view.Spent = None

  -- the views of a side that has acted, between two calls
  abbrev pub HasAdded : View J → Type 0
  HasAdded view.Pair = ⊥
  HasAdded (view.Adder adding.Ready) = ⊥
  HasAdded (view.Adder adding.Holding) = ⊥
  HasAdded (view.Adder (adding.Kept job)) = Unit {0}
  HasAdded (view.Adder (adding.Returning job what)) = ⊥
  HasAdded (view.Adder (adding.Late job what)) = Unit {0}
  HasAdded (view.Holder h) = ⊥
  HasAdded (view.Both a h) = ⊥
  HasAdded view.Spent = ⊥

  abbrev pub HasChosen : View J → Type 0
  HasChosen view.Pair = ⊥
  HasChosen (view.Adder a) = ⊥
  HasChosen (view.Holder choosing.Ready) = ⊥
  HasChosen (view.Holder (choosing.Taking what job)) = ⊥
  HasChosen (view.Holder (choosing.Chose what got)) = Unit {0}
  HasChosen (view.Both a h) = ⊥
  HasChosen view.Spent = ⊥
