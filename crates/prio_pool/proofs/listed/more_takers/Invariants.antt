use Rattle.std.proofs.Common.{◌≡◌, ◌+◌, ◌-◌}
use Rattle.prio_pool.specs.Made.{makers_of, new_takers_from}
use Rattle.prio_pool.proofs.listed.more_takers.Given as goal

abbrev pub invariant-loop-number : goal.invariant-loop-number
invariant-loop-number g l = record {
  makers : l.makers.items ≡ makers_of (record { passes = l.made.passes; left = l.made.left - l.number; adders = l.made.adders; takers = l.made.takers + l.number }) l.queues.items;
  list : l.list ≡ new_takers_from (record { queues = l.queues.items; passes = l.made.passes; mark = l.mark.mark }) l.made.takers l.number;
  seat : l.seat ≡ l.initial.seat;
}
