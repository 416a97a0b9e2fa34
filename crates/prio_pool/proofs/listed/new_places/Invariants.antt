use Rattle.std.proofs.Common.{◌≡◌}
use Rattle.prio_pool.specs.Made.{counted, makers_of, new_passes, in_places}
use Rattle.prio_pool.proofs.listed.new_places.Given as goal

abbrev pub invariant-loop-number : goal.invariant-loop-number
invariant-loop-number g l = record {
  makers : l.makers.items ≡ makers_of (counted l.passes l.number) l.queues.items;
  list : l.list ≡ in_places (new_passes (record { queues = l.queues.items; passes = l.passes; mark = l.mark.mark }) 0 l.number);
}
