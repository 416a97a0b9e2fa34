use Rattle.std.proofs.Common.{◌≡◌, List, ◌++◌, length}
use Rattle.task_queue.specs.Seen.{AdderSeen, and_adder}
use Rattle.prio_pool.specs.Gathering.{behind_with}
use Rattle.prio_pool.proofs.gather.put_adders.Given as goal

abbrev pub invariant-loop-adder : goal.invariant-loop-adder
invariant-loop-adder g l = record {
  done : List AdderSeen;
  all : l.adders.items ++ done ≡ l.fn.adders.items;
  gathered : l.gathered.items ≡ behind_with and_adder (length l.adders.items) l.initial.gathered.items done;
}

abbrev pub decreases-loop-adder : goal.decreases-loop-adder
decreases-loop-adder g l = goal.left-loop-adder g l
