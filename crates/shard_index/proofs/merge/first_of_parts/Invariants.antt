use Rattle.std.proofs.Common.{◌≡◌, nat_lt, take}
use Rattle.std.specs.List.{flat_map}
use Rattle.query_model.specs.Sorting.{sorted_by}
use Rattle.shard_index.proofs.merge.first_of_parts.Given as goal

abbrev pub invariant-loop-part : goal.invariant-loop-part
invariant-loop-part l = l.kept.items ≡ take l.most (sorted_by nat_lt (flat_map (λ hits. hits.ids) (take l.part-index l.parts)))
