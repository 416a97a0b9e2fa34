use Rattle.std.proofs.Common.{◌≤◌, ℕ, suc, List, length}
use Rattle.notify_queue.specs.Ends.{QueueId}
use Rattle.run_bases.specs.Columns.{AreColumns, IsEndRow, PutSoFar}
use Rattle.run_bases.proofs.rows.put_row.Given as goal

abbrev pub invariant-loop-end : goal.invariant-loop-end
invariant-loop-end g l = record {
  within : length l.row.items ≤ length l.columns;
  so_far : (queues : List QueueId) (first senders left low : ℕ) → AreColumns g.J.Headed.head queues first senders left (suc low) l.initial.columns
      → IsEndRow g.J.Headed.head queues first low l.initial.row.items
      → PutSoFar g.J.Headed.head queues first senders left low (length l.row.items) l.columns l.row.items;
}

abbrev pub decreases-loop-end : goal.decreases-loop-end
decreases-loop-end g l = length l.row.items
