use Rattle.std.proofs.Common.{◌≡◌, ◌-◌}
use Rattle.std.specs.Slots.{slots_items}
use Rattle.collect_ops.specs.Closing.{Rests, SameSlots, kept_from}
use Rattle.collect_ops.proofs.kept.next_outcome.Given as goal

abbrev pub invariant-loop-at : goal.invariant-loop-at
invariant-loop-at g l = record {
  rests : Rests l.at l.size l.slots;
  same : SameSlots l.initial.slots l.slots;
  passed : kept_from l.initial.from l.size (slots_items l.initial.slots.slots) ≡ kept_from l.at l.size (slots_items l.initial.slots.slots);
}

abbrev pub decreases-loop-at : goal.decreases-loop-at
decreases-loop-at g l = l.size - l.at
