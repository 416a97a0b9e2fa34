use Rattle.std.proofs.Common.{◌≡◌}
use Rattle.prio_pool.specs.Sleeping.{parkers_of, wakers_of, bits_from}
use Rattle.prio_pool.proofs.sleepers.list_parkers.Given as goal

abbrev pub invariant-loop-number : goal.invariant-loop-number
invariant-loop-number l = record {
  parkers : parkers_of l.parkers ≡ bits_from 0 l.number;
  wakers : wakers_of l.wakers.items ≡ bits_from 0 l.number;
}
