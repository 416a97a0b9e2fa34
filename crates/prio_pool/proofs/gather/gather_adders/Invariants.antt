use Rattle.std.proofs.Common.{◌≡◌, ◌≤◌, ◌+◌, ◌++◌, length, map, reverse, vec_capacity}
use Rattle.prio_pool.specs.Gathering.{only_adder}
use Rattle.prio_pool.proofs.gather.gather_adders.Given as goal

abbrev pub invariant-loop-adder : goal.invariant-loop-adder
invariant-loop-adder g l = record {
  all : l.gathered.items ++ map only_adder (reverse l.adders.items) ≡ map only_adder l.fn.adders.items;
  room : length l.gathered.items + length l.adders.items ≤ vec_capacity l.gathered;
}

abbrev pub decreases-loop-adder : goal.decreases-loop-adder
decreases-loop-adder g l = goal.left-loop-adder g l
