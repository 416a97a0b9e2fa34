use Rattle.std.proofs.Common.{◌≡◌, List, ◌++◌, length}
use Rattle.task_queue.specs.Seen.{TakerSeen, and_taker}
use Rattle.prio_pool.specs.Gathering.{behind_with}
use Rattle.prio_pool.proofs.gather.put_takers.Given as goal

abbrev pub invariant-loop-taker : goal.invariant-loop-taker
invariant-loop-taker g l = record {
  done : List TakerSeen;
  all : l.takers.items ++ done ≡ l.fn.takers.items;
  gathered : l.gathered.items ≡ behind_with and_taker (length l.takers.items) l.initial.gathered.items done;
}

abbrev pub decreases-loop-taker : goal.decreases-loop-taker
decreases-loop-taker g l = goal.left-loop-taker g l
