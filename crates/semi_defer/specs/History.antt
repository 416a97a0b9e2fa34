-- What an adder and a holder of one home have done, and what they say of each other: deferral.
use Rattle.std.specs.Prelude.{◌≡◌}
use Rattle.semi_defer.specs.declared.state.State.{State}
use Rattle.semi_defer.specs.declared.state.State.TheVariants as state
use Rattle.semi_defer.specs.declared.state.Chosen.{Chosen}
use Rattle.semi_defer.specs.declared.state.Chosen.TheVariants as chosen
use Rattle.semi_defer.specs.declared.history.AddEvent.{AddEvent}
use Rattle.semi_defer.specs.declared.history.AddEvent.TheVariants as added
use Rattle.semi_defer.specs.declared.history.ChooseEvent.{ChooseEvent}
use Rattle.semi_defer.specs.declared.history.ChooseEvent.TheVariants as chose

-- the state after a choice
abbrev pub state_of_choice : Chosen → State
state_of_choice (chosen.Executor exec) = state.HasExecutor exec
state_of_choice chosen.Detached = state.Detached

module _ {J : Type 0} where
  -- A job that was added and something that was chosen: the job comes out once, by the later of the two. Where the holder
  -- came later, it got the job that was kept. Where the adder came later, it has its job back, with what was chosen.
  abbrev pub Deferral : AddEvent J → ChooseEvent J → Type 0
  Deferral (added.Kept job) (chose.First what) = ⊥
  Deferral (added.Kept job) (chose.Got what got) = got ≡ job
  Deferral (added.Late job found) (chose.First what) = found ≡ what
  Deferral (added.Late job found) (chose.Got what got) = ⊥
