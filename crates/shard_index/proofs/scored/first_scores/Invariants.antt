use Rattle.std.proofs.Common.{◌≡◌, ◌<◌, ◌≤◌, ℕ, List, [], ◌∷◌, ◌++◌, take}
use Rattle.query_model.specs.Answers.{ranked, ranks_before}
use Rattle.query_model.specs.Sorting.{sorted_by}
use Rattle.shard_index.proofs.ScoredLemmas.{with_ids}
use Rattle.shard_index.proofs.scored.first_scores.Given as goal

abbrev pub invariant-loop-score : goal.invariant-loop-score
invariant-loop-score l = record {
  kept : l.kept.items ≡ take l.k (ranked (with_ids l.ids (take l.score-index l.scored)));
  some : 1 ≤ l.least;
  least : (score : ℕ × ℕ) (scores : List (ℕ × ℕ)) → 0 < score.1 → score.1 < l.least → l.kept.items ≡ take l.k (sorted_by ranks_before scores) → l.kept.items ≡ take l.k (sorted_by ranks_before (scores ++ score ∷ []));
}
