-- When each query is answered, and in which order.
use Rattle.std.specs.Prelude.{ℕ, ◌+◌, List, [], ◌∷◌, ◌++◌, Bool, true, false, ◌&&◌, ◌||◌, ◌==◌, nat_lt, nat_le, length, map, filter, find, take, slice_get, Option, Some, None, is_none}
use Rattle.std.specs.List.{filter_map, sum_by, range_with_len}
use Rattle.fan_base.specs.declared.doc.Doc.{Doc}
use Rattle.query_model.specs.declared.line.Line.{Line}
use Rattle.query_model.specs.declared.line.Line.TheVariants as line
use Rattle.query_model.specs.declared.line.Query.{Query}
use Rattle.query_model.specs.declared.reply.Reply.{Reply}
use Rattle.query_model.specs.declared.reply.Reply.TheVariants as reply
use Rattle.query_model.specs.Lines.{ticks_of}
use Rattle.query_model.specs.Sorting.{sorted_by}
use Rattle.query_model.specs.Documents.{docs_of}
use Rattle.query_model.specs.Answers.{answer}

-- A query among the lines: its number from 1, the place of its line from 0, and what it says.
pub record Asked : Type 0 where
  pub number : ℕ
  pub place : ℕ
  pub query : Query

-- the places of lines, from 0
abbrev pub places_of : List Line → List ℕ
places_of lines = range_with_len 0 (length lines)

-- the queries among lines of which the first has this place, and the first query this number
abbrev pub asked_from : ℕ → ℕ → List Line → List Asked
asked_from number place [] = []
asked_from number place (line.Doc _ ∷ lines) = asked_from number (place + 1) lines
asked_from number place (line.Query query ∷ lines) = record { number = number; place = place; query = query } ∷ asked_from (number + 1) (place + 1) lines
asked_from number place (line.Tick _ ∷ lines) = asked_from number (place + 1) lines
asked_from number place (line.Cancel _ ∷ lines) = asked_from number (place + 1) lines

-- the queries of these lines
abbrev pub asked_in : List Line → List Asked
asked_in lines = asked_from 1 0 lines

-- the sum of the ticks before the line at a place
abbrev pub now_at : List Line → ℕ → ℕ
now_at lines place = sum_by ticks_of (take place lines)

-- the tick at which a query with this delay is due
abbrev pub due_tick : List Line → ℕ → ℕ → ℕ
due_tick lines place delay = now_at lines place + delay

-- the first line that brings the sum of all ticks so far to this one, where there is one
abbrev pub due_line : List Line → ℕ → Option ℕ
due_line lines due = find (λ place. nat_le due (now_at lines (place + 1))) (places_of lines)

abbrev pub is_cancel_of : ℕ → Option Line → Bool
is_cancel_of number None = false
is_cancel_of number (Some (line.Doc _)) = false
is_cancel_of number (Some (line.Query _)) = false
is_cancel_of number (Some (line.Tick _)) = false
is_cancel_of number (Some (line.Cancel n)) = n == number

-- whether a place is before another, or there is no other
abbrev pub is_before : ℕ → Option ℕ → Bool
is_before place None = true
is_before place (Some end) = nat_lt place end

-- the first line that cancels a query, behind its own line and before its due line, or before the end where it has none
abbrev pub cancel_line : List Line → Asked → Option ℕ → Option ℕ
cancel_line lines asked due =
    find (λ place. nat_lt asked.place place && (is_before place due && is_cancel_of asked.number (slice_get lines place))) (places_of lines)

-- What becomes of a query: it is answered at a line, or cancelled at one, or neither.
pub data Outcome : Type 0 where
  answered : ℕ → Outcome
  cancelled : ℕ → Outcome
  left : Outcome

-- by its cancel line and its due line
abbrev pub outcome_by : Option ℕ → Option ℕ → Outcome
outcome_by (Some place) due = Outcome.cancelled place
outcome_by None (Some place) = Outcome.answered place
outcome_by None None = Outcome.left

-- A query without delay is answered at its own line.
abbrev pub outcome_after : List Line → Asked → Option ℕ → Outcome
outcome_after lines asked None = Outcome.answered asked.place
outcome_after lines asked (Some delay) =
    let due = due_line lines (due_tick lines asked.place delay) in outcome_by (cancel_line lines asked due) due

abbrev pub outcome_of : List Line → Asked → Outcome
outcome_of lines asked = outcome_after lines asked asked.query.delay

-- the due tick of a query, 0 without a delay
abbrev pub due_with : List Line → ℕ → Option ℕ → ℕ
due_with lines place None = 0
due_with lines place (Some delay) = due_tick lines place delay

abbrev pub due_of : List Line → Asked → ℕ
due_of lines asked = due_with lines asked.place asked.query.delay

-- the documents of a query: those whose lines stand before its own
abbrev pub docs_before : List Line → Asked → List Doc
docs_before lines asked = docs_of (take asked.place lines)

-- A reply that comes at a line: the line's place, the due tick and the number of the query, and the reply.
pub record Turn : Type 0 where
  pub place : ℕ
  pub due : ℕ
  pub number : ℕ
  pub reply : Reply

-- by the line, then by the due tick, then by the number
abbrev pub comes_before : Turn → Turn → Bool
comes_before a b =
    nat_lt a.place b.place || (a.place == b.place && (nat_lt a.due b.due || (a.due == b.due && nat_lt a.number b.number)))

abbrev pub turn_by : List Line → Asked → Outcome → Option Turn
turn_by lines asked (Outcome.answered place) =
    Some (record { place = place; due = due_of lines asked; number = asked.number; reply = answer asked.query.ask (docs_before lines asked) })
turn_by lines asked (Outcome.cancelled place) =
    Some (record { place = place; due = due_of lines asked; number = asked.number; reply = reply.Cancelled })
turn_by lines asked Outcome.left = None

-- the turn of a query, where it has one
abbrev pub turn_of : List Line → Asked → Option Turn
turn_of lines asked = turn_by lines asked (outcome_of lines asked)

-- the turns of all queries, in order
abbrev pub turns_of : List Line → List Turn
turns_of lines = sorted_by comes_before (filter_map (turn_of lines) (asked_in lines))

-- the queries that have no turn
abbrev pub left_in : List Line → List Asked
left_in lines = filter (λ asked. is_none (turn_of lines asked)) (asked_in lines)

-- The replies in the order of answers, each with the number of its query. Those without a turn come last, by number.
unfoldable pub replies_of : List Line → List (ℕ × Reply)
replies_of lines = map (λ turn. (turn.number, turn.reply)) (turns_of lines) ++ map (λ asked. (asked.number, reply.Cancelled)) (left_in lines)
