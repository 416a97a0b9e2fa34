use Rattle.std.proofs.Common.{◌≡◌, ◌≤◌, filter, length, take}
use Rattle.shard_index.proofs.BitLemmas.{keeps}
use Rattle.shard_index.proofs.bits.narrow_by_bits.Given as goal

abbrev pub invariant-loop-place : goal.invariant-loop-place
invariant-loop-place l = record {
  room : length l.kept.items ≡ length l.places;
  few : l.many ≤ l.place-index;
  kept : take l.many l.kept.items ≡ filter (keeps l.bits l.wanted) (take l.place-index l.places);
}
