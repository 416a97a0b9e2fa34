use Rattle.std.proofs.Common.{◌≡◌, ◌-◌, ◌+◌, ◌≤◌, false, length, take}
use Rattle.shard_index.specs.Narrowing.{AreParted}
use Rattle.shard_index.proofs.NarrowLemmas.{Ascend, HasKept}
use Rattle.shard_index.proofs.narrow.without_near.Given as goal

abbrev pub invariant-places : goal.invariant-places
invariant-places l = record {
  among_places : l.i ≤ length l.places;
  among_others : l.at ≤ length l.others;
  room : length l.kept.items ≡ length l.places;
  few : l.many ≤ l.i;
  kept : Ascend l.places → AreParted l.others → HasKept l.places l.others false l.i l.at (take l.many l.kept.items);
}

abbrev pub decreases-places : goal.decreases-places
decreases-places l = (length l.places - l.i) + (length l.others - l.at)
