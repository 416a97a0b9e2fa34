use Rattle.std.proofs.Common.{All, nat_lt, take}
use Rattle.query_model.specs.Sorting.{IsInOrder}
use Rattle.shard_index.proofs.merge.all_ascend.Given as goal

abbrev pub invariant-loop-part : goal.invariant-loop-part
invariant-loop-part l = All (λ hits. IsInOrder nat_lt hits.ids) (take l.part-index l.parts)
