-- What became of all tasks that the passes of a pool added.
use Rattle.std.specs.Prelude.{◌≡◌, ℕ, ◌+◌, ◌<◌, List, ◌++◌, map, length, slice_get, Some, ◌==◌, ◌&&◌, Bool}
use Rattle.std.specs.List.{count_by}
use Rattle.job_trait.specs.declared.job.Head.{Head}
use Rattle.pool_model.specs.declared.task.Ticket.{Ticket}
use Rattle.pool_model.specs.Tasks.{Task, add_of}
use Rattle.pool_model.specs.Records.{Record, IsRunOf, AreRunsOf}
use Rattle.pool_model.specs.Seen.{PoolId, PassSeen, Returned, task_of}
use Rattle.pool_model.specs.Passes.{AreAllPasses, adds_of, adds_total, tasks_of}
use Rattle.pool_model.specs.Orders.{IsSameInAnyOrder}

-- The account of a pool that was joined: the records are of the runs of some tasks, in order, which in any order are all that the passes added.
pub record AllRun (passes : List PassSeen) (records : List Record) : Type 0 where
  pub tasks : List Task
  pub runs : AreRunsOf tasks records
  pub all : IsSameInAnyOrder tasks (tasks_of passes)

-- The account of a pool that was stopped: those tasks and the ones that are handed back are all that the passes added.
pub record AllRunOrReturned {J : Type 0} (head : J → Head) (passes : List PassSeen) (records : List Record) (returned : List (Returned J)) : Type 0 where
  pub tasks : List Task
  pub runs : AreRunsOf tasks records
  pub all : IsSameInAnyOrder (tasks ++ map (task_of head) returned) (tasks_of passes)

-- the pass with the ticket's number made the add with the ticket's index, which is this task's
pub record IsAddOf (passes : List PassSeen) (task : Task) : Type 0 where
  pub place : ℕ
  pub pass : PassSeen
  pub at : slice_get passes place ≡ Some pass
  pub number : pass.number ≡ task.ticket.adder
  pub add : slice_get (adds_of pass) task.ticket.index ≡ Some (add_of task)

abbrev pub is_ticket : ℕ → ℕ → Ticket → Bool
is_ticket adder index t = (t.adder == adder) && (t.index == index)

-- how many of the tasks, of the records, and of the tasks that are handed back have this ticket
abbrev pub tasks_with : ℕ → ℕ → List Task → ℕ
tasks_with adder index tasks = count_by (λ t. is_ticket adder index t.ticket) tasks

abbrev pub records_with : ℕ → ℕ → List Record → ℕ
records_with adder index records = count_by (λ r. is_ticket adder index r.ticket) records

abbrev pub returned_with : {J : Type 0} → ℕ → ℕ → List (Returned J) → ℕ
returned_with adder index returned = count_by (λ r. is_ticket adder index r.ticket) returned

-- the record is of the run of a task that the passes added
pub record IsRunOfAdd (passes : List PassSeen) (r : Record) : Type 0 where
  pub task : Task
  pub add : IsAddOf passes task
  pub run : IsRunOf task r

-- each record is of such a run, each ticket has one record, and there are as many records as adds
pub record RanOnce (passes : List PassSeen) (records : List Record) : Type 0 where
  pub each : (k : ℕ) (r : Record) → slice_get records k ≡ Some r → IsRunOfAdd passes r
  pub once : (k : ℕ) (pass : PassSeen) (index : ℕ) → slice_get passes k ≡ Some pass → index < length (adds_of pass) → records_with pass.number index records ≡ 1
  pub many : length records ≡ adds_total passes

-- the same of records and tasks that are handed back: each ticket has one record or is handed back once
pub record RanOrReturnedOnce {J : Type 0} (head : J → Head) (passes : List PassSeen) (records : List Record) (returned : List (Returned J)) : Type 0 where
  pub each : (k : ℕ) (r : Record) → slice_get records k ≡ Some r → IsRunOfAdd passes r
  pub each_returned : (k : ℕ) (r : Returned J) → slice_get returned k ≡ Some r → IsAddOf passes (task_of head r)
  pub once : (k : ℕ) (pass : PassSeen) (index : ℕ) → slice_get passes k ≡ Some pass → index < length (adds_of pass)
      → records_with pass.number index records + returned_with pass.number index returned ≡ 1
  pub many : length records + length returned ≡ adds_total passes

-- of all passes of the pool the account of a join by sums is one by tickets
abbrev pub JoinAccounts : PoolId → ℕ → List PassSeen → List Record → Type 0
JoinAccounts pool adders passes records = AreAllPasses pool adders passes → AllRun passes records → RanOnce passes records

-- and so is that of a stop
abbrev pub StopAccounts : {J : Type 0} → (J → Head) → PoolId → ℕ → List PassSeen → List Record → List (Returned J) → Type 0
StopAccounts head pool adders passes records returned = AreAllPasses pool adders passes → AllRunOrReturned head passes records returned → RanOrReturnedOnce head passes records returned
