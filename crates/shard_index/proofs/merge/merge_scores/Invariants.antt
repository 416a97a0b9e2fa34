use Rattle.std.proofs.Common.{◌≡◌, take}
use Rattle.std.specs.List.{flat_map}
use Rattle.query_model.specs.Answers.{ranks_before}
use Rattle.query_model.specs.Sorting.{sorted_by}
use Rattle.shard_index.proofs.merge.merge_scores.Given as goal

abbrev pub invariant-loop-part : goal.invariant-loop-part
invariant-loop-part l = l.kept.items ≡ take l.k (sorted_by ranks_before (flat_map (λ scores. scores) (take l.part-index l.parts)))
