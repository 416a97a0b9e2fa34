-- The queries of an input that are answered, in the order of answers.
use Rattle.std.specs.Prelude.{ℕ, List, [], Bool, true, false, length, filter, take, drop, nat_le, Option, Some, None}
use Rattle.std.specs.List.{count_by}
use Rattle.query_model.specs.declared.line.Ask.{Ask}
use Rattle.query_model.specs.declared.line.Ask.TheVariants as ask
use Rattle.query_model.specs.declared.line.Line.{Line}
use Rattle.query_model.specs.declared.reply.Reply.TheVariants as reply
use Rattle.query_model.specs.Sorting.{sorted_by}
use Rattle.query_model.specs.Order.{Asked, Outcome, Turn, asked_in, comes_before, due_of, outcome_of}

abbrev pub is_answered_by : Outcome → Bool
is_answered_by (Outcome.answered place) = true
is_answered_by (Outcome.cancelled place) = false
is_answered_by Outcome.left = false

-- the place of the line at which a query is answered or cancelled, 0 where it is neither
abbrev pub line_of : Outcome → ℕ
line_of (Outcome.answered place) = place
line_of (Outcome.cancelled place) = place
line_of Outcome.left = 0

-- where a query stands in the order of answers, whatever its reply is
abbrev pub standing : List Line → Asked → Turn
standing lines asked = record { place = line_of (outcome_of lines asked); due = due_of lines asked; number = asked.number; reply = reply.Cancelled }

abbrev pub is_answered : List Line → Asked → Bool
is_answered lines asked = is_answered_by (outcome_of lines asked)

abbrev pub answered_before : List Line → Asked → Asked → Bool
answered_before lines a b = comes_before (standing lines a) (standing lines b)

-- the answered queries, by the line of the answer, then by the due tick, then by the number
unfoldable pub answered_in : List Line → List Asked
answered_in lines = sorted_by (answered_before lines) (filter (is_answered lines) (asked_in lines))

-- A stop point is a number of answered queries: those before it are early, the others late. Without one all are early.
abbrev pub early_of : {X : Type 0} → Option ℕ → List X → List X
early_of None answered = answered
early_of (Some stop_at) answered = take stop_at answered

abbrev pub late_of : {X : Type 0} → Option ℕ → List X → List X
late_of None answered = []
late_of (Some stop_at) answered = drop stop_at answered

-- whether a run is stopped: it has a stop point, and at least so many queries are answered
abbrev pub is_stopped : Option ℕ → List Asked → Bool
is_stopped None answered = false
is_stopped (Some stop_at) answered = nat_le stop_at (length answered)

abbrev pub is_top : Ask → Bool
is_top (ask.Find _) = false
is_top (ask.Count _) = false
is_top (ask.Present _) = false
is_top (ask.Top _ _) = true

-- how many of these queries ask for the documents that rank first
abbrev pub tops_in : List Asked → ℕ
tops_in queries = count_by (λ asked. is_top asked.query.ask) queries
