use Rattle.std.proofs.Common.{◌≡◌, ◌+◌, ◌≤◌, ◌++◌, List, All, length, map, reverse, vec_capacity}
use Rattle.task_queue.specs.Seen.{GatheredSeen}
use Rattle.prio_pool.specs.Gathering.{AllSettled, IsWhole}
use Rattle.prio_pool.proofs.settle.settle_all.Given as goal

abbrev pub invariant-loop-queue : goal.invariant-loop-queue
invariant-loop-queue g l = record {
  done : List GatheredSeen;
  all : l.gathered.items ++ done ≡ l.fn.gathered.items;
  queues : map (λ (x : GatheredSeen). x.queue) l.gathered.items ≡ l.queues.items;
  whole : All IsWhole l.gathered.items;
  settled : AllSettled g.J.Headed.head done (reverse l.rests.items);
  room : length l.rests.items + length l.queues.items ≤ vec_capacity l.rests;
}

abbrev pub decreases-loop-queue : goal.decreases-loop-queue
decreases-loop-queue g l = length l.queues.items
