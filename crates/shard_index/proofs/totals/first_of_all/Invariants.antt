use Rattle.std.proofs.Common.{◌≡◌, ◌<◌, ◌≤◌, ℕ, List, [], ◌∷◌, ◌++◌, take, zip}
use Rattle.query_model.specs.Answers.{ranked, ranks_before}
use Rattle.query_model.specs.Sorting.{sorted_by}
use Rattle.shard_index.proofs.totals.first_of_all.Given as goal

abbrev pub invariant-loop-at : goal.invariant-loop-at
invariant-loop-at l = record {
  kept : l.kept.items ≡ take l.k (ranked (take l.at (zip l.ids l.totals)));
  some : 1 ≤ l.least;
  least : (score : ℕ × ℕ) (scores : List (ℕ × ℕ)) → 0 < score.1 → score.1 < l.least → l.kept.items ≡ take l.k (sorted_by ranks_before scores) → l.kept.items ≡ take l.k (sorted_by ranks_before (scores ++ score ∷ []));
}
