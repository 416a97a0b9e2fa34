-- What a timer does, and how timers go with the queries that wait.
use Rattle.std.specs.Prelude.{◌≡◌, ℕ, ◌<◌, ◌≤◌, List, [], ◌∷◌, ◌++◌, Bool, ◌&&◌, ◌==◌, not, map, filter}
use Rattle.std.specs.List.{AllByRecursion, All}
use Rattle.fan_base.specs.declared.number.ExecId.{ExecId}
use Rattle.fan_base.specs.declared.number.JobId.{JobId}
use Rattle.fan_base.specs.declared.number.Mark.{Mark}
use Rattle.job_trait.specs.declared.job.Head.{Head}
use Rattle.job_trait.specs.Marks.{IsDone}
use Rattle.tick_wheel.specs.declared.timer.Timer.{Timer}
use Rattle.notify_queue.specs.Ends.{AreAllEnds, Sending}
use Rattle.event_base.specs.Calls.{with_timer}
use Rattle.event_base.specs.Seen.{AgendaSeen, BaseSeen}
use Rattle.event_base.specs.Turns.{Place}
use Rattle.query_timers.specs.declared.query.DelayedQuery.{DelayedQuery}
use Rattle.query_timers.specs.declared.due.DueQuery.{DueQuery}
use Rattle.query_timers.specs.Seen.{WaitersSeen}

-- a job's head: its id is the query's number
abbrev pub head_of : DueQuery → Head
head_of job = record { id = record { 0 = job.number }; exec = job.exec; number = 0 }

-- whether a query has this number and is due exactly at this tick
abbrev pub fires_at : ℕ → ℕ → DelayedQuery → Bool
fires_at number tick query = query.number == number && query.due == tick

-- the query with this number has fired, where it waited and was due at this tick
abbrev pub fired_at : ℕ → ℕ → WaitersSeen → WaitersSeen
fired_at number tick old = record old {
  waiting = filter (λ query. not (fires_at number tick query)) old.waiting;
  fired = old.fired ++ filter (fires_at number tick) old.waiting;
}

-- a job fires the query of its id at its tick, which is done, and leaves the agenda alone
pub record Fires (id : JobId) (p : Place WaitersSeen DueQuery) (mark : Mark) (q : Place WaitersSeen DueQuery) : Type 0 where
  pub world : q.0 ≡ fired_at id.0 p.1.wheel.tick p.0
  pub agenda : q.1 ≡ p.1
  pub done : IsDone mark

-- the job and the timer of a query that waits
abbrev pub job_of : ExecId → DelayedQuery → DueQuery
job_of exec query = record { number = query.number; exec = exec }

abbrev pub timer_of : ExecId → DelayedQuery → Timer DueQuery
timer_of exec query = record { due = query.due; id = query.number; item = job_of exec query }

-- numbers above this one, each above that before it
abbrev pub Ascend : ℕ → List DelayedQuery → Type 0
Ascend number [] = Unit {0}
Ascend number (query ∷ queries) = (number < query.number) × Ascend query.number queries

-- the timers of an agenda are those of the queries that wait, which are due later and have ascending numbers
pub record AreTimersOf (agenda : AgendaSeen DueQuery) (waiters : WaitersSeen) : Type 0 where
  pub timers : agenda.wheel.timers ≡ map (timer_of agenda.exec) waiters.waiting
  pub later : AllByRecursion (λ query. agenda.wheel.tick < query.due) waiters.waiting
  pub ascend : Ascend 0 waiters.waiting
  pub few : AllByRecursion (λ query. query.number ≤ waiters.asked) waiters.waiting

-- these are the ends of the base's posters, which posted nothing
pub record AreSilentEnds (base : BaseSeen DueQuery) (ends : List (Sending DueQuery)) : Type 0 where
  pub all : AreAllEnds base.queue ends
  pub silent : All (λ (e : Sending DueQuery). e.sent ≡ []) ends

-- the same base with another agenda
abbrev pub with_agenda : BaseSeen DueQuery → AgendaSeen DueQuery → BaseSeen DueQuery
with_agenda base agenda = record base { agenda = agenda }

-- an agenda with the timer of the query with this number, which is due after so many ticks
abbrev pub scheduled_on : AgendaSeen DueQuery → ℕ → ℕ → AgendaSeen DueQuery
scheduled_on agenda number delay = with_timer agenda delay number (record { number = number; exec = agenda.exec })
