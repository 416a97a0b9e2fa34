-- What contracts see of a home, of its two sides, and of what they come to.
use Rattle.std.specs.Prelude.{ℕ, Bool, Option}
use Rattle.atomic_table.specs.Seated.{TableId}
use Rattle.semi_defer.specs.declared.history.AddEvent.{AddEvent}
use Rattle.semi_defer.specs.declared.history.ChooseEvent.{ChooseEvent}

-- which home it is
abbrev pub HomeId : Type 0
HomeId = TableId

-- a home, and whether its pair was taken
pub record HomeSeen : Type 0 where
  pub home : HomeId
  pub taken : Bool

-- a side that hasn't acted
pub record SideSeen : Type 0 where
  pub home : HomeId

-- an adder that has added, and what came of it
pub record AddedSeen (J : Type 0) : Type 0 where
  pub home : HomeId
  pub did : Option (AddEvent J)

-- a holder that has chosen, and what came of it
pub record ChosenSeen (J : Type 0) : Type 0 where
  pub home : HomeId
  pub did : Option (ChooseEvent J)

-- what a closed home hands out: its word, and the job that was kept and that nobody got
pub record RemainsSeen (J : Type 0) : Type 0 where
  pub word : ℕ
  pub job : Option J
