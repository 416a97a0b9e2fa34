use Rattle.std.proofs.Common.{◌≡◌, map, sum, take}
use Rattle.shard_index.proofs.merge.total_of.Given as goal

abbrev pub invariant-loop-part : goal.invariant-loop-part
invariant-loop-part l = l.total ≡ sum (map (λ hits. hits.total) (take l.part-index l.parts))
