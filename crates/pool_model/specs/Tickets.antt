-- The tickets of tasks, in the order of a queue.
use Rattle.std.specs.Prelude.{◌≡◌, ◌≢◌, ℕ, ◌<◌, List, [], ◌∷◌, Some, map, slice_get, All}
use Rattle.pool_model.specs.declared.task.Ticket.{Ticket}
use Rattle.pool_model.specs.declared.task.Entry.{Entry}

-- of two tickets of one adder, the first has the smaller index
abbrev pub IsBefore : Ticket → Ticket → Type 0
IsBefore s t = s.adder ≡ t.adder → s.index < t.index

-- the indexes of each adder ascend
abbrev pub Ascend : List Ticket → Type 0
Ascend [] = Unit {0}
Ascend (t ∷ ts) = All (IsBefore t) ts × Ascend ts

-- no two of these have one ticket
abbrev pub TicketsDiffer : List Entry → Type 0
TicketsDiffer entries = (i j : ℕ) (a b : Entry) → i < j → slice_get entries i ≡ Some a → slice_get entries j ≡ Some b → a.ticket ≢ b.ticket

abbrev pub tickets_of : List Entry → List Ticket
tickets_of entries = map (λ e. e.ticket) entries
