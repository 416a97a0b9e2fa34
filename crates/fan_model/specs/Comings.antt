-- What comes of the queries of an input, place by place in the order of answers: the work of each is begun, or it is cancelled.
use Rattle.std.specs.Prelude.{◌≡◌, ℕ, ◌-◌, ◌≤◌, List, [], ◌∷◌, ◌++◌, Bool, true, false, ◌&&◌, ◌||◌, ◌==◌, not, nat_lt, map, filter, slice_get, Option, Some, None}
use Rattle.query_model.specs.declared.line.Line.{Line}
use Rattle.query_model.specs.declared.line.Line.TheVariants as line
use Rattle.query_model.specs.declared.line.Query.{Query}
use Rattle.query_model.specs.declared.reply.Reply.{Reply}
use Rattle.query_model.specs.declared.reply.Reply.TheVariants as reply
use Rattle.query_model.specs.Sorting.{sorted_by}
use Rattle.query_model.specs.Order.{Asked, Outcome, asked_in, due_of, left_in, outcome_of}
use Rattle.query_model.specs.LineByLine.{is_due, is_numbered, next_asked}
use Rattle.fan_model.specs.Answered.{answered_before}
use Rattle.fan_model.specs.Laws.{answer_of}

-- What comes at a place: the work of a query is begun, or a query is cancelled.
pub data Coming : Type 0 where
  begins : Asked → Coming
  cancels : Asked → Coming

-- by what becomes of a query: one that is left over is cancelled behind all lines
abbrev pub coming_by : Asked → Outcome → Coming
coming_by asked (Outcome.answered place) = Coming.begins asked
coming_by asked (Outcome.cancelled place) = Coming.cancels asked
coming_by asked Outcome.left = Coming.cancels asked

abbrev pub coming_of : List Line → Asked → Coming
coming_of lines asked = coming_by asked (outcome_of lines asked)

-- whether a query comes at a line, and isn't left over
abbrev pub comes_by : Outcome → Bool
comes_by (Outcome.answered place) = true
comes_by (Outcome.cancelled place) = true
comes_by Outcome.left = false

abbrev pub comes : List Line → Asked → Bool
comes lines asked = comes_by (outcome_of lines asked)

-- what comes at these lines, by the line, then by the due tick, then by the number
unfoldable pub come_in : List Line → List Coming
come_in lines = map (coming_of lines) (sorted_by (answered_before lines) (filter (comes lines) (asked_in lines)))

-- all that comes: behind what comes at the lines the queries that are left over, by number
unfoldable pub comings_of : List Line → List Coming
comings_of lines = come_in lines ++ map Coming.cancels (left_in lines)

-- at this place, from 0, this comes
pub record ComesAt (lines : List Line) (place : ℕ) (coming : Coming) : Type 0 where
  pub at : slice_get (comings_of lines) place ≡ Some coming

-- the number of the query that comes, and the reply to it
abbrev pub reply_to : List Line → Coming → ℕ × Reply
reply_to lines (Coming.begins asked) = answer_of lines asked
reply_to lines (Coming.cancels asked) = (asked.number, reply.Cancelled)

-- the query whose work is begun
abbrev pub begun_by : Coming → Option Asked
begun_by (Coming.begins asked) = Some asked
begun_by (Coming.cancels asked) = None

-- the query that comes
abbrev pub query_of : Coming → Asked
query_of (Coming.begins asked) = asked
query_of (Coming.cancels asked) = asked

-- A query of these lines: it stands among them at the place of its number, which is from 1, and its line at its own place.
pub record IsAsked (lines : List Line) (asked : Asked) : Type 0 where
  pub at : slice_get (asked_in lines) (asked.number - 1) ≡ Some asked
  pub from_one : 1 ≤ asked.number
  pub line : slice_get lines asked.place ≡ Some (line.Query asked.query)

-- the earlier due tick first, then the smaller number
abbrev pub due_first : List Line → Asked → Asked → Bool
due_first lines a b = nat_lt (due_of lines a) (due_of lines b) || (due_of lines a == due_of lines b && nat_lt a.number b.number)

-- the query of the line behind these, where it is answered there: it has no delay
abbrev pub answered_with : List Line → Query → Option ℕ → List Asked
answered_with lines query None = next_asked lines query ∷ []
answered_with lines query (Some delay) = []

-- the queries that are answered at a line behind these, in order
abbrev pub answered_at_line : List Line → Line → List Asked
answered_at_line lines (line.Doc doc) = []
answered_at_line lines (line.Query query) = answered_with lines query query.delay
answered_at_line lines (line.Tick n) = sorted_by (due_first lines) (filter (is_due lines n) (left_in lines))
answered_at_line lines (line.Cancel n) = []

-- the queries that are cancelled at a line behind these
abbrev pub cancelled_at_line : List Line → Line → List Asked
cancelled_at_line lines (line.Doc doc) = []
cancelled_at_line lines (line.Query query) = []
cancelled_at_line lines (line.Tick n) = []
cancelled_at_line lines (line.Cancel n) = filter (is_numbered n) (left_in lines)

abbrev pub come_at_line : List Line → Line → List Coming
come_at_line lines l = map Coming.begins (answered_at_line lines l) ++ map Coming.cancels (cancelled_at_line lines l)

-- the query of the line behind these, where it waits: it has a delay
abbrev pub waits_with : List Line → Query → Option ℕ → List Asked
waits_with lines query None = []
waits_with lines query (Some delay) = next_asked lines query ∷ []

-- the queries that wait behind a further line, by number
abbrev pub left_at_line : List Line → Line → List Asked
left_at_line lines (line.Doc doc) = left_in lines
left_at_line lines (line.Query query) = left_in lines ++ waits_with lines query query.delay
left_at_line lines (line.Tick n) = filter (λ asked. not (is_due lines n asked)) (left_in lines)
left_at_line lines (line.Cancel n) = filter (λ asked. not (is_numbered n asked)) (left_in lines)
