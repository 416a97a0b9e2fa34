use Rattle.std.proofs.Common.{◌-◌}
use Rattle.collect_ops.specs.Closing.{Rests, SameSlots}
use Rattle.collect_ops.proofs.kept.first_slot.Given as goal

abbrev pub invariant-loop-at : goal.invariant-loop-at
invariant-loop-at g l = record {
  rests : Rests l.at l.size l.slots;
  same : SameSlots l.initial.slots l.slots;
}

abbrev pub decreases-loop-at : goal.decreases-loop-at
decreases-loop-at g l = l.size - l.at
