use Rattle.std.proofs.Common.{◌≡◌, take}
use Rattle.shard_index.specs.Parts.{total_with}
use Rattle.shard_index.proofs.merge.total_with.Given as goal

abbrev pub invariant-loop-part : goal.invariant-loop-part
invariant-loop-part l = l.total ≡ total_with l.i (take l.part-index l.parts)
