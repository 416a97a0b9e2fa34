use Rattle.std.proofs.Common.{◌≡◌, ◌-◌, ◌≤◌, length}
use Rattle.pool_model.specs.Steps.{empty_from_the_top}
use Rattle.prio_pool.specs.Takers.{DidSteps}
use Rattle.prio_pool.proofs.takers.Takers.next.Given as goal

abbrev pub invariant-loop-number : goal.invariant-loop-number
invariant-loop-number g l = record {
  within : l.number ≤ length l.queues.items;
  did : DidSteps l.initial.self l.self (empty_from_the_top (length l.queues.items) (length l.queues.items - l.number));
  popped : l.self.popped ≡ l.initial.self.popped;
}

abbrev pub decreases-loop-number : goal.decreases-loop-number
decreases-loop-number g l = l.number
