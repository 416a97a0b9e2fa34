use Rattle.std.proofs.Common.{◌≡◌, ◌<◌, ◌^◌, ℕ, List, [], ◌∷◌, ◌++◌, take, map, get_or, nat_lt}
use Rattle.query_model.specs.Limits.{most_listed}
use Rattle.query_model.specs.Sorting.{sorted_by}
use Rattle.shard_index.proofs.hits.smallest_ids.Given as goal

abbrev pub invariant-loop-place : goal.invariant-loop-place
invariant-loop-place l = record {
  kept : l.kept.items ≡ take most_listed (sorted_by nat_lt (map (λ place. get_or l.ids place 0) (take l.place-index l.places)));
  greatest : (id : ℕ) (ids : List ℕ) → id < 2 ^ 32 → l.greatest < id → l.kept.items ≡ take most_listed (sorted_by nat_lt ids) → l.kept.items ≡ take most_listed (sorted_by nat_lt (ids ++ id ∷ []));
}
