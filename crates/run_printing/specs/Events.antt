-- What became of the messages of the printer's base.
use Rattle.std.specs.Prelude.{◌≡◌, ℕ, ◌+◌, min, Bool, true, false, List, [], ◌∷◌}
use Rattle.std.specs.List.{count_by, flat_map}
use Rattle.fan_base.specs.Outside.{last_count}
use Rattle.fan_base.specs.declared.number.Mark.{Mark}
use Rattle.fan_base.specs.declared.outcome.Try.{Try}
use Rattle.fan_base.specs.declared.outcome.Try.TheVariants as try
use Rattle.query_model.specs.declared.line.Line.{Line}
use Rattle.query_model.specs.declared.reply.Reply.{Reply}
use Rattle.query_model.specs.declared.reply.Reply.TheVariants as reply
use Rattle.core_word.specs.Count.{Counts, raised}
use Rattle.fan_model.specs.Laws.{tells}
use Rattle.fan_model.specs.Places.{IsReplyAt}
use Rattle.fan_parts.specs.Seen.{PlacedSeen}
use Rattle.fan_parts.specs.declared.jobs.PrintJob.{PrintJob}
use Rattle.fan_parts.specs.declared.jobs.PrintJob.TheVariants as job
use Rattle.reply_printer.specs.declared.printer.Progress.{Progress}
use Rattle.reply_printer.specs.declared.printer.Progress.TheVariants as progress
use Rattle.reply_printer.specs.Printing.{Placed}

-- A message that ran: a core that fired with the answer at a place to the query with a number, one that fired without a value, or a query that was
-- cancelled, which has no core.
pub data Event : Type 0 where
  answered : ℕ → ℕ → Reply → Event
  failed : Event
  cancelled : ℕ → ℕ → Event

-- what becomes of a core that fired with an outcome: its answer, where it has one
abbrev pub event_of : Try PlacedSeen → Event
event_of (try.Value reply) = Event.answered reply.place reply.number reply.reply
event_of try.Broken = Event.failed
event_of try.Memory = Event.failed
event_of (try.Cancelled number) = Event.failed

-- what becomes of a message
abbrev pub event_by : {N : Type 0} → PrintJob N → Event
event_by (job.Replied fire) = event_of fire.outcome
event_by (job.Cancelled reply) = Event.cancelled reply.place reply.number

-- the mark of a reply that was given to a printer: want of memory where that printer has found none
abbrev pub mark_of : Progress → Mark
mark_of progress.Memory = Mark.Memory
mark_of progress.Writing = Mark.Done 0
mark_of progress.WriteFault = Mark.Done 0
mark_of progress.Repeated = Mark.Done 0

-- the mark of a message, by what became of it and how far the printer is then
abbrev pub mark_by : Event → Progress → Mark
mark_by (Event.answered place number reply) now = mark_of now
mark_by Event.failed now = Mark.Memory
mark_by (Event.cancelled place number) now = mark_of now

-- what the printer was given for it
abbrev pub given_by : Event → List Placed
given_by (Event.answered place number answer) = (place, (number, answer)) ∷ []
given_by Event.failed = []
given_by (Event.cancelled place number) = (place, (number, reply.Cancelled)) ∷ []

abbrev pub given_in : List Event → List Placed
given_in events = flat_map given_by events

-- whether a core fired
abbrev pub has_fired : Event → Bool
has_fired (Event.answered place number answer) = true
has_fired Event.failed = true
has_fired (Event.cancelled place number) = false

-- whether a reply is missing
abbrev pub has_failed : Event → Bool
has_failed (Event.answered place number answer) = false
has_failed Event.failed = true
has_failed (Event.cancelled place number) = false

-- it is of these lines: the reply stands at its place, and the reply of a core is an answer
abbrev pub IsOf : List Line → Event → Type 0
IsOf lines (Event.answered place number answer) = IsReplyAt lines place number answer × (tells answer ≡ true)
IsOf lines Event.failed = Unit {0}
IsOf lines (Event.cancelled place number) = IsReplyAt lines place number reply.Cancelled

-- a tally by which nothing was counted
abbrev pub no_counts : Counts
no_counts = record { made = 0; handed = 0; forwarded = 0; freed = 0; reopened = 0 }

-- a core that fired is counted as handed over
abbrev pub counted : Event → Counts → Counts
counted (Event.answered place number answer) t = record t { handed = raised t.handed }
counted Event.failed t = record t { handed = raised t.handed }
counted (Event.cancelled place number) t = t

-- so many cores more have handed over, up to the last number of 64 bits
abbrev pub with_handed : Counts → ℕ → Counts
with_handed t n = record t { handed = min (t.handed + n) last_count }

-- how many cores fired
abbrev pub fired_in : List Event → ℕ
fired_in events = count_by has_fired events
