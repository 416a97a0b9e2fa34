-- How the tasks of a run and its replies go together.
use Rattle.std.specs.Prelude.{ℕ, List, Bool, true, false}
use Rattle.query_model.specs.declared.line.Line.{Line}
use Rattle.query_model.specs.declared.reply.Reply.{Reply}
use Rattle.query_model.specs.declared.reply.Reply.TheVariants as reply
use Rattle.query_model.specs.Answers.{answer}
use Rattle.query_model.specs.Order.{Asked, docs_before}

abbrev pub tells : Reply → Bool
tells (reply.Find _) = true
tells (reply.Count _) = true
tells (reply.Present _) = true
tells (reply.Top _) = true
tells reply.Cancelled = false

-- whether a reply isn't that the query was cancelled
abbrev pub is_answer : ℕ × Reply → Bool
is_answer r = tells r.1

-- the number of a query, and its answer over the documents before it
abbrev pub answer_of : List Line → Asked → ℕ × Reply
answer_of lines asked = (asked.number, answer asked.query.ask (docs_before lines asked))
