-- What one more line adds to the replies, and which queries wait behind it: so a program can go through the lines once.
use Rattle.std.specs.Prelude.{◌≡◌, ℕ, ◌+◌, ◌==◌, List, [], ◌∷◌, ◌++◌, Bool, nat_le, nat_lt, length}
use Rattle.std.specs.List.{count_by, sum_by}
use Rattle.query_model.specs.declared.line.Line.{Line}
use Rattle.query_model.specs.declared.line.Query.{Query}
use Rattle.query_model.specs.declared.reply.Reply.TheVariants as reply
use Rattle.query_model.specs.Lines.{is_query, ticks_of}
use Rattle.query_model.specs.Sorting.{sorted_by}
use Rattle.query_model.specs.Documents.{docs_of}
use Rattle.query_model.specs.Answers.{answer}
use Rattle.query_model.specs.Order.{Asked, Turn, comes_before, docs_before, due_of, turns_of, left_in}

-- the query of the line behind these
abbrev pub next_asked : List Line → Query → Asked
next_asked lines query = record { number = 1 + count_by is_query lines; place = length lines; query = query }

-- a query that is answered at the line behind these, and one that is cancelled there
abbrev pub answered_at : List Line → Asked → Turn
answered_at lines asked = record { place = length lines; due = due_of lines asked; number = asked.number; reply = answer asked.query.ask (docs_before lines asked) }

abbrev pub cancelled_at : List Line → Asked → Turn
cancelled_at lines asked = record { place = length lines; due = due_of lines asked; number = asked.number; reply = reply.Cancelled }

-- the query of the line behind these, where it has no delay
abbrev pub answered_now : List Line → Query → Turn
answered_now lines query = record { place = length lines; due = 0; number = 1 + count_by is_query lines; reply = answer query.ask (docs_of lines) }

-- whether so many further ticks bring a query to its due tick
abbrev pub is_due : List Line → ℕ → Asked → Bool
is_due lines ticks asked = nat_le (due_of lines asked) (sum_by ticks_of lines + ticks)

abbrev pub is_numbered : ℕ → Asked → Bool
is_numbered n asked = n == asked.number

-- One more line adds these turns behind the others, in order, and leaves these queries waiting.
pub record Adds (lines : List Line) (l : Line) (turns : List Turn) (waiting : List Asked) : Type 0 where
  pub turns_are : turns_of (lines ++ l ∷ []) ≡ turns_of lines ++ sorted_by comes_before turns
  pub waiting_are : left_in (lines ++ l ∷ []) ≡ waiting

-- the smaller number first
abbrev pub numbered_before : Asked → Asked → Bool
numbered_before a b = nat_lt a.number b.number
