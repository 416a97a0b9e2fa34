use Rattle.std.proofs.Common.{◌≡◌, ◌≤◌, length, map, take, vec_capacity}
use Rattle.prio_pool.specs.Made.{maker, one_taker, new_taker, mixed}
use Rattle.prio_pool.proofs.make.next_takers.Given as goal

abbrev pub invariant-loop-number : goal.invariant-loop-number
invariant-loop-number g l = record {
  makers : l.makers.items ≡ mixed (maker (one_taker l.counts)) (maker l.counts) l.number l.queues.items;
  list : l.list.items ≡ map (new_taker l.counts) (take l.number l.queues.items);
  room : length l.queues.items ≤ vec_capacity l.list;
}
