-- The accepted tasks of a pool, over all its queues.
use Rattle.std.specs.Prelude.{ℕ, ◌+◌, List, [], ◌∷◌, ◌++◌, map}
use Rattle.job_trait.specs.declared.job.Head.{Head}
use Rattle.pool_model.specs.declared.task.Ticket.{Ticket}
use Rattle.pool_model.specs.declared.task.Entry.{Entry}

-- an accepted task: its ticket, its queue, and its job's id, executor and number
pub record Task : Type 0 where
  pub ticket : Ticket
  pub queue : ℕ
  pub head : Head

-- an accepted add: the queue, and the job's id, executor and number
pub record Add : Type 0 where
  pub queue : ℕ
  pub head : Head

-- the tasks of one queue
abbrev pub in_queue : ℕ → List Entry → List Task
in_queue queue entries = map (λ e. record { ticket = e.ticket; queue = queue; head = e.head }) entries

-- the tasks of all queues, whose numbers begin with the first: from the lowest queue to the highest
abbrev pub upwards : ℕ → List (List Entry) → List Task
upwards first [] = []
upwards first (entries ∷ more) = in_queue first entries ++ upwards (first + 1) more

-- the same from the highest queue to the lowest
abbrev pub downwards : ℕ → List (List Entry) → List Task
downwards first [] = []
downwards first (entries ∷ more) = downwards (first + 1) more ++ in_queue first entries

abbrev pub add_of : Task → Add
add_of t = record { queue = t.queue; head = t.head }

-- the tasks of an adder's adds, which have the indexes from the first on
abbrev pub numbered : ℕ → ℕ → List Add → List Task
numbered adder first [] = []
numbered adder first (x ∷ xs) = record { ticket = record { adder = adder; index = first }; queue = x.queue; head = x.head } ∷ numbered adder (first + 1) xs
