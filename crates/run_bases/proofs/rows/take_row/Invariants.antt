use Rattle.std.proofs.Common.{◌≡◌, ◌≤◌, ℕ, suc, List, length}
use Rattle.std.specs.Prelude.{vec_capacity}
use Rattle.notify_queue.specs.Ends.{QueueId}
use Rattle.run_bases.specs.Columns.{AreColumns, TakenSoFar}
use Rattle.run_bases.proofs.rows.take_row.Given as goal

abbrev pub invariant-loop-place : goal.invariant-loop-place
invariant-loop-place g l = record {
  room : length l.columns ≤ vec_capacity l.row;
  many : length l.row.items ≡ l.place;
  so_far : (queues : List QueueId) (first senders left low : ℕ) → AreColumns g.J.Headed.head queues first senders (suc left) low l.initial.columns
      → TakenSoFar g.J.Headed.head queues first senders left low l.place l.columns l.row.items;
}
