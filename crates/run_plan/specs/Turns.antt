-- The turns of an input's queries, place by place in the order of answers.
use Rattle.std.specs.Prelude.{◌≡◌, ℕ, List, Bool, true, false, length, map, take, drop}
use Rattle.std.specs.List.{filter_map}
use Rattle.query_model.specs.declared.line.Line.{Line}
use Rattle.query_model.specs.Order.{Asked, docs_before}
use Rattle.fan_model.specs.Comings.{Coming, begun_by, comings_of}
use Rattle.run_plan.specs.declared.turn.BegunQuery.{BegunQuery}
use Rattle.run_plan.specs.declared.turn.Turn.{Turn}
use Rattle.run_plan.specs.declared.turn.Turn.TheVariants as turn

-- a query of these lines whose work is begun
abbrev pub begun_query : List Line → Asked → BegunQuery
begun_query lines asked = record { number = asked.number; line = asked.place; documents = length (docs_before lines asked) }

-- the turn of what comes
abbrev pub turn_of : List Line → Coming → Turn
turn_of lines (Coming.begins asked) = turn.Begin (begun_query lines asked)
turn_of lines (Coming.cancels asked) = turn.Cancel asked.number

-- the turns of all that comes
pub record AreTurnsOf (lines : List Line) (turns : List Turn) : Type 0 where
  pub are : turns ≡ map (turn_of lines) (comings_of lines)

-- the queries among these whose work is begun
abbrev pub begun_in : List Coming → List Asked
begun_in comings = filter_map begun_by comings

-- the queries that are begun from one place on, and before another
abbrev pub begun_between : List Line → ℕ → ℕ → List Asked
begun_between lines start end = begun_in (drop start (take end (comings_of lines)))

abbrev pub is_begin : Turn → Bool
is_begin (turn.Begin query) = true
is_begin (turn.Cancel number) = false
