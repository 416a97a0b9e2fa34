use Rattle.std.proofs.Common.{◌≡◌, ◌≤◌, length, vec_capacity}
use Rattle.prio_pool.specs.Made.{makers_of}
use Rattle.prio_pool.proofs.make.open_queues.Given as goal

abbrev pub invariant-loop : goal.invariant-loop
invariant-loop g l = record {
  count : length l.queues.items ≡ l.counter;
  makers : l.makers.items ≡ makers_of (record { passes = l.passes; left = l.passes; adders = 0; takers = 0 }) l.queues.items;
  queues_room : l.count ≤ vec_capacity l.queues;
  makers_room : l.count ≤ vec_capacity l.makers;
}
