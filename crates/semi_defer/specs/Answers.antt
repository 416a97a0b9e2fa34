-- What the calls of both sides answer, by the state that they found.
use Rattle.std.specs.Prelude.{◌≡◌, Option, Some, None}
use Rattle.semi_defer.specs.declared.state.Chosen.{Chosen}
use Rattle.semi_defer.specs.declared.state.Chosen.TheVariants as chosen
use Rattle.semi_defer.specs.declared.history.AddEvent.{AddEvent}
use Rattle.semi_defer.specs.declared.history.AddEvent.TheVariants as add
use Rattle.semi_defer.specs.declared.history.ChooseEvent.{ChooseEvent}
use Rattle.semi_defer.specs.declared.history.ChooseEvent.TheVariants as choose
use Rattle.semi_defer.specs.declared.adder.Added.{Added}
use Rattle.semi_defer.specs.declared.adder.Added.TheVariants as added

module _ {J : Type 0} where
  -- Kept where Empty was found, RunOn with the executor that was set where HasExecutor was, Gone where Detached was: the last two with this job.
  abbrev pub AddsAt : J → Added J → Option (AddEvent J) → Type 0
  AddsAt job added.Kept did = did ≡ Some (add.Kept job)
  AddsAt job (added.RunOn exec out) did = (out ≡ job) × (did ≡ Some (add.Late job (chosen.Executor exec)))
  AddsAt job (added.Gone out) did = (out ≡ job) × (did ≡ Some (add.Late job chosen.Detached))

  -- the job where HasFunction was found, and none where Empty was
  abbrev pub ChoosesAt : Chosen → Option J → Option (ChooseEvent J) → Type 0
  ChoosesAt what None did = did ≡ Some (choose.First what)
  ChoosesAt what (Some job) did = did ≡ Some (choose.Got what job)
