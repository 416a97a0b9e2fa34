-- What contracts see of a pool, its passes and its ends.
use Rattle.std.specs.Prelude.{ℕ, Bool, Option, List, slice_index_or, []}
use Rattle.std.specs.declared.alloc.Global.{Global}
use Rattle.atomic_table.specs.Seated.{TableId}
use Rattle.crossbeam_queue.specs.SegTies.{SegId}
use Rattle.fan_base.specs.declared.number.ExecId.{ExecId}
use Rattle.job_trait.specs.declared.job.Head.{Head}
use Rattle.pool_model.specs.declared.task.Ending.{Ending}
use Rattle.pool_model.specs.declared.task.Entry.{Entry}
use Rattle.pool_model.specs.declared.task.Ticket.{Ticket}
use Rattle.pool_model.specs.Records.{Record}
use Rattle.pool_model.specs.Steps.{LookSeen, Step, steps_in}
use Rattle.pool_model.specs.Tasks.{Task}

-- which pool it is: its queues, from the lowest, how many passes it has in all, and its end mark
pub record PoolId : Type 0 where
  pub queues : List (SegId Global)
  pub passes : ℕ
  pub mark : TableId

-- a pool: which it is, the count of its keep-alives, its executor, and how many passes of each kind it has
pub record PoolSeen : Type 0 where
  pub id : PoolId
  pub count : TableId
  pub exec : ExecId
  pub adders : ℕ
  pub workers : ℕ
  pub helpers : ℕ

-- an adder's pass: its pool, its number, and what it pushed on each queue, from the lowest
pub record PassSeen : Type 0 where
  pub pool : PoolId
  pub number : ℕ
  pub pushed : List (List Entry)

-- a worker's pass: its pool, and the worker's number
pub record WorkerSeen : Type 0 where
  pub pool : PoolId
  pub number : ℕ

-- A helper's pass, or the end of a worker or helper: its records in order, and what it popped from each queue, from the lowest; all its looks at the
-- queues and at the mark, oldest first; and the end of the pool that its last look at the mark found.
pub record EndSeen : Type 0 where
  pub pool : PoolId
  pub number : ℕ
  pub records : List Record
  pub popped : List (List Entry)
  pub looks : List LookSeen
  pub found : Option Ending

-- all that it did at the queues and at the mark, oldest first
abbrev pub steps_by : EndSeen → List Step
steps_by e = steps_in e.looks

-- a pool whose end has begun: which it is, the count of its keep-alives, which end, and the passes of its adders, as they were handed in
pub record EndingSeen : Type 0 where
  pub pool : PoolId
  pub count : TableId
  pub ending : Ending
  pub passes : List PassSeen

-- the records of a pool that has ended, and whether it was stopped
pub record RunsSeen : Type 0 where
  pub records : List Record
  pub stopped : Bool

-- a task that is handed back
pub record Returned (J : Type 0) : Type 0 where
  pub ticket : Ticket
  pub queue : ℕ
  pub job : J

-- the task as it was accepted
abbrev pub task_of : {J : Type 0} → (J → Head) → Returned J → Task
task_of head r = record { ticket = r.ticket; queue = r.queue; head = head r.job }

-- the list of one queue
abbrev pub at_queue : List (List Entry) → ℕ → List Entry
at_queue lists queue = slice_index_or lists queue []
