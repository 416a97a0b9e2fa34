-- What happened to one queue of a pool.
use Rattle.std.specs.Prelude.{ℕ, ◌==◌, List, [], ◌∷◌, take, filter, cond}
use mathlib.Core.List.{IsPrefix}
use Rattle.pool_model.specs.declared.task.Entry.{Entry}
use Rattle.pool_model.specs.Tickets.{Ascend, tickets_of}

-- a task was accepted, the worker or helper with this number took it, or it was left when the pool ended
pub data Event : Type 0 where
  accepted : Entry → Event
  taken : ℕ → Entry → Event
  left : Entry → Event

-- the tasks that were accepted, in order
abbrev pub accepts : List Event → List Entry
accepts [] = []
accepts (accepted e ∷ events) = e ∷ accepts events
accepts (taken w e ∷ events) = accepts events
accepts (left e ∷ events) = accepts events

-- the tasks that were taken, in order
abbrev pub takes : List Event → List Entry
takes [] = []
takes (accepted e ∷ events) = takes events
takes (taken w e ∷ events) = e ∷ takes events
takes (left e ∷ events) = takes events

-- the tasks that were left, in order
abbrev pub lefts : List Event → List Entry
lefts [] = []
lefts (accepted e ∷ events) = lefts events
lefts (taken w e ∷ events) = lefts events
lefts (left e ∷ events) = e ∷ lefts events

-- the tasks that are out of the queue, taken or left, in order
abbrev pub outs : List Event → List Entry
outs [] = []
outs (accepted e ∷ events) = outs events
outs (taken w e ∷ events) = e ∷ outs events
outs (left e ∷ events) = e ∷ outs events

-- the tasks that this adder added, in order
abbrev pub accepted_by : ℕ → List Event → List Entry
accepted_by a events = filter (λ e. e.ticket.adder == a) (accepts events)

-- the tasks that the worker or helper with this number took, in order
abbrev pub taken_by : ℕ → List Event → List Entry
taken_by n [] = []
taken_by n (accepted e ∷ events) = taken_by n events
taken_by n (taken w e ∷ events) = cond (w == n) (e ∷ taken_by n events) (taken_by n events)
taken_by n (left e ∷ events) = taken_by n events

-- A lawful history of one queue, oldest first: the indexes of each adder ascend, and at every moment what is out is what was accepted first.
-- So each task leaves once, after its accept, in the order of acceptance.
pub record PoolHistory (history : List Event) : Type 0 where
  pub ascend : Ascend (tickets_of (accepts history))
  pub in_order : (moment : ℕ) → IsPrefix (outs (take moment history)) (accepts (take moment history))
