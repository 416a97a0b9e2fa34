-- Tasks that are handed back, from the highest queue to the lowest.
use Rattle.std.specs.Prelude.{◌≡◌, ℕ, ◌+◌, ◌≤◌, List, [], ◌∷◌, ◌++◌, Option, Some, None, length, map, slice_get, slice_set}
use Rattle.pool_model.specs.declared.task.Ticket.{Ticket}
use Rattle.pool_model.specs.Seen.{Returned}
use Rattle.pool_runs.specs.declared.placed.Placed.{Placed}
use Rattle.task_queue.specs.declared.rule.Queued.{Queued}

abbrev pub back_of : {J : Type 0} → ℕ → Queued (Placed J) → Returned J
back_of queue task = record { ticket = task.ticket; queue = queue; job = task.job.job }

-- the first of these tasks has this ticket and this job, and the others are these
abbrev pub HasFirst : {J : Type 0} → List (Returned J) → Ticket → J → List (Returned J) → Type 0
HasFirst old ticket job new = (queue : ℕ) × (old ≡ record { ticket = ticket; queue = queue; job = job } ∷ new)

-- those that wait in these queues, whose numbers begin with k
abbrev pub back_from : {J : Type 0} → ℕ → List (List (Queued (Placed J))) → List (Returned J)
back_from k [] = []
back_from k (rest ∷ rests) = back_from (k + 1) rests ++ map (back_of k) rest

-- the first of what waits in this queue was taken, or nothing waits there
abbrev pub FirstTaken : {J : Type 0} → List (List (Queued (Placed J))) → ℕ → Option (Queued (Placed J)) → List (List (Queued (Placed J))) → Type 0
FirstTaken old number None new = (slice_get old number ≡ Some []) × (new ≡ old)
FirstTaken {J} old number (Some task) new = (rest : List (Queued (Placed J))) × (slice_get old number ≡ Some (task ∷ rest)) × (new ≡ slice_set old number rest)

-- the first of all was taken, or nothing waits
abbrev pub NextTaken : {J : Type 0} → List (List (Queued (Placed J))) → Option (ℕ × Queued (Placed J)) → List (List (Queued (Placed J))) → Type 0
NextTaken old None new = (back_from 0 old ≡ []) × (back_from 0 new ≡ []) × (length new ≤ length old)
NextTaken old (Some t) new = (back_from 0 old ≡ back_of t.0 t.1 ∷ back_from 0 new) × (length new ≤ length old)
