-- What contracts see of a home, of its two sides, and of what they come to.
use Rattle.std.specs.Prelude.{Bool, List}
use Rattle.atomic_table.specs.Seated.{TableId}
use Rattle.core_interrupt.specs.declared.history.RaiseEvent.{RaiseEvent}
use Rattle.core_interrupt.specs.declared.history.HearEvent.{HearEvent}

-- which home it is
abbrev pub HomeId : Type 0
HomeId = TableId

-- a home, and whether its pair was taken
pub record HomeSeen : Type 0 where
  pub home : HomeId
  pub taken : Bool

-- a hearer that has done nothing
pub record HearerSeen : Type 0 where
  pub home : HomeId

-- a hearer that has set a handler or ended, and what it has done, the oldest first
pub record HeardSeen (H I : Type 0) : Type 0 where
  pub home : HomeId
  pub heard : List (HearEvent H I)

-- a raiser, and its raises, the oldest first
pub record RaiserSeen (H I : Type 0) : Type 0 where
  pub home : HomeId
  pub raised : List (RaiseEvent H I)
