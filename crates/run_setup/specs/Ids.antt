-- Which parts a run has.
use Rattle.std.specs.Prelude.{ℕ, List}
use Rattle.core_cells.specs.Seen.{SeenCells}
use Rattle.notify_queue.specs.Ends.{QueueId}

-- how many workers there are, the cells of the tasks' cores, and the queues of the gathering bases, by base, and of the printer's base
pub record RunIds : Type 0 where
  pub workers : ℕ
  pub cells : SeenCells
  pub queues : List QueueId
  pub printer : QueueId
