-- The turn at a place of the order of answers.
use Rattle.std.specs.Prelude.{ℕ}
use Rattle.fan_model.specs.Report.{Asking}
use Rattle.query_opening.specs.Turns.{IsBegun, IsCancelled}
use Rattle.run_plan.specs.declared.turn.Turn.{Turn}
use Rattle.run_plan.specs.declared.turn.Turn.TheVariants as turn

-- at this place this turn's query is begun, or it is cancelled
abbrev pub IsTurnAt : Asking → ℕ → Turn → Type 0
IsTurnAt asked place (turn.Begin query) = IsBegun asked place query.number query.line query.documents
IsTurnAt asked place (turn.Cancel number) = IsCancelled asked place number
