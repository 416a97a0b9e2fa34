use Rattle.std.proofs.Common.{◌≡◌, ◌≤◌, ◌++◌, length, drop}
use Rattle.shard_index.proofs.JoinLemmas.{joined}
use Rattle.shard_index.proofs.NarrowLemmas.{Ascend}
use Rattle.shard_index.proofs.join.all_far.Given as goal

abbrev pub invariant-loop-place : goal.invariant-loop-place
invariant-loop-place l = record {
  within : l.at ≤ length l.many;
  kept : Ascend l.many → l.kept.items ++ joined (drop l.place-index l.few) (drop l.at l.many) ≡ joined l.few l.many;
}
