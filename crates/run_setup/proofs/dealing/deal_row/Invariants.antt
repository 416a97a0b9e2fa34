use Rattle.std.proofs.Common.{◌≡◌, ◌≤◌, ℕ, suc, List, length, map}
use Rattle.std.specs.Prelude.{vec_capacity}
use Rattle.notify_queue.specs.Ends.{QueueId}
use Rattle.fan_parts.specs.Seen.{PosterSeen}
use Rattle.run_bases.specs.Columns.{AreColumns, TakenSoFar, exec_at}
use Rattle.run_setup.proofs.Each.{EachFrom}
use Rattle.run_setup.proofs.dealing.deal_row.Given as goal

abbrev pub invariant-loop-place : goal.invariant-loop-place
invariant-loop-place g l = record {
  room : length l.columns.items ≤ vec_capacity l.row;
  few : length l.columns.items ≤ 8;
  many : length l.row.items ≡ l.place;
  execs : EachFrom (λ k (p : PosterSeen g.row.J.Denot). p.exec ≡ exec_at 1 k) 0 l.row.items;
  so_far : (queues : List QueueId) (senders left low : ℕ) → AreColumns g.J.Headed.head queues 1 senders (suc left) low l.initial.columns.items
      → TakenSoFar g.J.Headed.head queues 1 senders left low l.place l.columns.items (map (λ (p : PosterSeen g.row.J.Denot). p.sender) l.row.items);
}
