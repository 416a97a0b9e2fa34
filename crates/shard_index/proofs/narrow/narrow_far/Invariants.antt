use Rattle.std.proofs.Common.{◌≤◌, length}
use Rattle.shard_index.specs.Narrowing.{AreParted}
use Rattle.shard_index.proofs.NarrowLemmas.{Ascend, HasKept}
use Rattle.shard_index.proofs.narrow.narrow_far.Given as goal

abbrev pub invariant-loop-place : goal.invariant-loop-place
invariant-loop-place l = record {
  within : l.at ≤ length l.others;
  kept : Ascend l.places → AreParted l.others → HasKept l.places l.others l.wanted l.place-index l.at l.kept.items;
}
