-- The numbers that stand for the states in the word.
use Rattle.std.specs.Prelude.{ℕ}
use Rattle.core_interrupt.specs.declared.state.State.{State}
use Rattle.core_interrupt.specs.declared.state.State.TheVariants.{Empty, HasHandler, HasObject, Called, Ended}

abbrev pub code_of : State → ℕ
code_of Empty = 0
code_of HasHandler = 1
code_of HasObject = 2
code_of Called = 3
code_of Ended = 4
