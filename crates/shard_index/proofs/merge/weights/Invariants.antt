use Rattle.std.proofs.Common.{◌≡◌, map}
use Rattle.std.specs.List.{range_with_len}
use Rattle.shard_index.specs.Parts.{total_with, weight_by}
use Rattle.shard_index.proofs.merge.weights.Given as goal

abbrev pub invariant-loop-i : goal.invariant-loop-i
invariant-loop-i l = l.weights.items ≡ map (λ i. weight_by l.docs (total_with i l.parts)) (range_with_len 0 l.i)
