use Rattle.std.proofs.Common.{◌-◌, ◌+◌, ◌≤◌, true, length}
use Rattle.shard_index.specs.Narrowing.{AreParted}
use Rattle.shard_index.proofs.NarrowLemmas.{Ascend, HasKept}
use Rattle.shard_index.proofs.narrow.common_near.Given as goal

abbrev pub invariant-places : goal.invariant-places
invariant-places l = record {
  among_places : l.i ≤ length l.places;
  among_others : l.at ≤ length l.others;
  kept : Ascend l.places → AreParted l.others → HasKept l.places l.others true l.i l.at l.kept.items;
}

abbrev pub decreases-places : goal.decreases-places
decreases-places l = (length l.places - l.i) + (length l.others - l.at)
