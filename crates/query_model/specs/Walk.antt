-- One walk over the lines: what is kept from line to line, and the replies so far.
use Rattle.std.specs.Prelude.{ℕ, ◌+◌, List, [], ◌∷◌, ◌++◌, Bool, ◌&&◌, ◌||◌, ◌==◌, not, nat_lt, nat_le, map, filter, Option, Some, None}
use Rattle.std.specs.List.{fold}
use Rattle.fan_base.specs.declared.doc.Doc.{Doc}
use Rattle.query_model.specs.declared.line.Ask.{Ask}
use Rattle.query_model.specs.declared.line.Line.{Line}
use Rattle.query_model.specs.declared.line.Line.TheVariants as line
use Rattle.query_model.specs.declared.reply.Reply.{Reply}
use Rattle.query_model.specs.declared.reply.Reply.TheVariants as reply
use Rattle.query_model.specs.declared.reply.Waiting.{Waiting}
use Rattle.query_model.specs.Sorting.{sorted_by}
use Rattle.query_model.specs.Answers.{answer}

pub record Progress : Type 0 where
  -- the ticks, the documents and the number of queries so far
  pub now : ℕ
  pub documents : List Doc
  pub asked : ℕ
  -- the queries that wait, by number
  pub waiting : List Waiting
  -- the replies so far, each with the number of its query
  pub replies : List (ℕ × Reply)

-- before the first line
abbrev pub start : Progress
start = record { now = 0; documents = []; asked = 0; waiting = []; replies = [] }

-- the earlier due tick first, then the smaller number
abbrev pub due_before : Waiting → Waiting → Bool
due_before a b = nat_lt a.due b.due || (a.due == b.due && nat_lt a.number b.number)

abbrev pub is_due_by : ℕ → Waiting → Bool
is_due_by now w = nat_le w.due now

abbrev pub has_number : ℕ → Waiting → Bool
has_number n w = n == w.number

abbrev pub answered : Waiting → ℕ × Reply
answered w = (w.number, w.reply)

abbrev pub cancelled : Waiting → ℕ × Reply
cancelled w = (w.number, reply.Cancelled)

-- A query without delay is answered, and one with a delay waits.
abbrev pub asked_with : Progress → Ask → Option ℕ → Progress
asked_with p ask None = record {
  now = p.now;
  documents = p.documents;
  asked = p.asked + 1;
  waiting = p.waiting;
  replies = p.replies ++ (p.asked + 1, answer ask p.documents) ∷ [];
}
asked_with p ask (Some delay) = record {
  now = p.now;
  documents = p.documents;
  asked = p.asked + 1;
  waiting = p.waiting ++ record { number = p.asked + 1; due = p.now + delay; reply = answer ask p.documents } ∷ [];
  replies = p.replies;
}

-- one line more
abbrev pub step : Progress → Line → Progress
step p (line.Doc doc) = record { now = p.now; documents = p.documents ++ doc ∷ []; asked = p.asked; waiting = p.waiting; replies = p.replies }
step p (line.Query query) = asked_with p query.ask query.delay
step p (line.Tick n) = record {
  now = p.now + n;
  documents = p.documents;
  asked = p.asked;
  waiting = filter (λ w. not (is_due_by (p.now + n) w)) p.waiting;
  replies = p.replies ++ map answered (sorted_by due_before (filter (is_due_by (p.now + n)) p.waiting));
}
step p (line.Cancel n) = record {
  now = p.now;
  documents = p.documents;
  asked = p.asked;
  waiting = filter (λ w. not (has_number n w)) p.waiting;
  replies = p.replies ++ map cancelled (filter (has_number n) p.waiting);
}

-- behind these lines
abbrev pub progress_of : List Line → Progress
progress_of lines = fold step start lines

-- the replies so far, and those of the queries that still wait at the end
abbrev pub all_replies : Progress → List (ℕ × Reply)
all_replies p = p.replies ++ map cancelled p.waiting
