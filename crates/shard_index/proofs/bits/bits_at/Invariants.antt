use Rattle.std.proofs.Common.{◌≡◌, ◌+◌, ◌/◌, ℕ, length, take}
use Rattle.shard_index.specs.Bits.{bit_of}
use Rattle.shard_index.specs.Narrowing.{has_place}
use Rattle.shard_index.proofs.bits.bits_at.Given as goal

abbrev pub invariant-loop-place : goal.invariant-loop-place
invariant-loop-place l = record {
  long : length l.bits.items ≡ l.count / 64 + 1;
  are : (i : ℕ) → bit_of l.bits.items i ≡ has_place (take l.place-index l.places) i;
}
