-- The numbers that stand for the states in the word. An executor's number stands in it behind them.
use Rattle.std.specs.Prelude.{ℕ, ◌+◌}
use Rattle.semi_defer.specs.declared.state.State.{State}
use Rattle.semi_defer.specs.declared.state.State.TheVariants.{Empty, HasFunction, HasExecutor, Detached}
use Rattle.semi_defer.specs.declared.state.Chosen.{Chosen}
use Rattle.semi_defer.specs.declared.state.Chosen.TheVariants as chosen

abbrev pub code_of : State → ℕ
code_of Empty = 0
code_of HasFunction = 1
code_of Detached = 2
code_of (HasExecutor exec) = 3 + exec.0

abbrev pub word_of : Chosen → ℕ
word_of chosen.Detached = 2
word_of (chosen.Executor exec) = 3 + exec.0
