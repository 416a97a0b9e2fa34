-- What contracts see of the queries that wait.
use Rattle.std.specs.Prelude.{◌≡◌, ℕ, ◌+◌, ◌-◌, List, [], ◌∷◌, ◌++◌, Bool, ◌&&◌, ◌||◌, ◌==◌, not, nat_lt, nat_le, filter}
use Rattle.fan_base.specs.declared.number.JobId.{JobId}
use Rattle.query_model.specs.Sorting.{sorted_by}
use Rattle.query_timers.specs.declared.query.DelayedQuery.{DelayedQuery}

-- how many queries there were, those that wait, by number, and those that have fired and weren't handed out
pub record WaitersSeen : Type 0 where
  pub asked : ℕ
  pub waiting : List DelayedQuery
  pub fired : List DelayedQuery

-- the same on a base, with the ticks made and how many more queries may wait
pub record TimersSeen : Type 0 where
  pub tick : ℕ
  pub asked : ℕ
  pub waiting : List DelayedQuery
  pub fired : List DelayedQuery
  pub homes : ℕ

-- one query more, which waits
abbrev pub with_waiter : WaitersSeen → DelayedQuery → WaitersSeen
with_waiter old query = record old { asked = old.asked + 1; waiting = old.waiting ++ query ∷ [] }

-- the id of a query's timer
abbrev pub id_of : DelayedQuery → JobId
id_of query = record { 0 = query.number }

abbrev pub has_number : ℕ → DelayedQuery → Bool
has_number number query = query.number == number

abbrev pub is_due_by : ℕ → DelayedQuery → Bool
is_due_by tick query = nat_le query.due tick

-- the earlier due tick first, then the smaller number
abbrev pub due_first : DelayedQuery → DelayedQuery → Bool
due_first a b = nat_lt a.due b.due || (a.due == b.due && nat_lt a.number b.number)

-- so many ticks, as one turn of the clock: those that are due fire, by due tick and then by number
pub record Ticks (ticks : ℕ) (old new : TimersSeen) : Type 0 where
  pub tick : new.tick ≡ old.tick + ticks
  pub fired : new.fired ≡ old.fired ++ sorted_by due_first (filter (is_due_by (old.tick + ticks)) old.waiting)
  pub waiting : new.waiting ≡ filter (λ query. not (is_due_by (old.tick + ticks) query)) old.waiting
  pub asked : new.asked ≡ old.asked
  pub homes : new.homes ≡ old.homes

-- the query with a number waits no more
abbrev pub without : ℕ → TimersSeen → TimersSeen
without number old = record old { waiting = filter (λ query. not (has_number number query)) old.waiting }

-- the next query, which doesn't wait
abbrev pub with_skipped : TimersSeen → TimersSeen
with_skipped old = record old { asked = old.asked + 1 }

-- the next query, which waits for so many ticks
abbrev pub delayed : TimersSeen → ℕ → ℕ → ℕ → DelayedQuery
delayed old line documents delay = record { number = old.asked + 1; line = line; documents = documents; due = old.tick + delay }

abbrev pub with_delayed : TimersSeen → ℕ → ℕ → ℕ → TimersSeen
with_delayed old line documents delay = record old {
  asked = old.asked + 1;
  waiting = old.waiting ++ delayed old line documents delay ∷ [];
  homes = old.homes - 1;
}
