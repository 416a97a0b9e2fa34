use Rattle.std.proofs.Common.{◌≡◌, ◌+◌, ◌<◌, ◌++◌, ◌∷◌, [], ℕ, List, take, length, ap, sym, ◌∙◌, arith, get_or}
use Rattle.std.proofs.lemmas.List.{map_more}
use Rattle.shard_index.proofs.ScoreLemmas.{one-kept, positive, too-small}
use Rattle.shard_index.proofs.ScoredLemmas.{with_id, with_ids}
use Rattle.shard_index.proofs.scored.first_scores.Goals as goal
use Rattle.shard_index.proofs.scored.first_scores.Goals.{then-total-least+in_ok-keep_score, else-total-least}

-- the scores so far, with ids
abbrev rows : List ℕ → List (ℕ × ℕ) → ℕ → List (ℕ × ℕ)
rows ids scored i = with_ids ids (take i scored)

rows-more : (ids : List ℕ) (scored : List (ℕ × ℕ)) (i : ℕ) → i < length scored → rows ids scored (i + 1) ≡ rows ids scored i ++ with_id ids (get_or scored i (0, 0)) ∷ []
rows-more ids scored i within = map_more (with_id ids) scored i (0, 0) within

pub loop-score-preserved : goal.loop-score-preserved
loop-score-preserved c =
    let ids = c.args.ids.now in
    let scored = c.args.scored.now in
    let i = c.loop-score.score-index in
    let score : ℕ × ℕ = with_id ids (get_or scored i (0, 0)) in
    let longer = rows-more ids scored i c.loop-score-test.true in
    elim c.if-total-least.branch [
      | then-total-least+in_ok-keep_score w ↦
          let same = ap (λ v. v.items) w.kept-is in
          record {
            kept =
                same
                ∙ (w.in_ok-keep_score.ensures (positive (rows ids scored i)) c.loop-score.invariant.kept
                ∙ one-kept c.args.k (rows ids scored i) (rows ids scored (i + 1)) score longer (omega (arith, w.if-total-least.true, c.loop-score.invariant.some)));
            some = omega (arith, w.least-is, w.least_total-least.ensures.some);
            least = λ s scores some low keeps.
                same ∙ (sym w.as_slice.ensures.value
                ∙ w.least_total-least.ensures.least s scores some (omega (arith, w.least-is, low)) (w.as_slice.ensures.value ∙ (sym same ∙ keeps)));
          }
      | else-total-least w ↦
          let same = ap (λ v. v.items) w.kept-is in
          record {
            kept =
                same ∙ too-small c.args.k c.loop-score.least c.loop-score.kept.items (rows ids scored i) (rows ids scored (i + 1)) score longer w.if-total-least.false
                c.loop-score.invariant.least c.loop-score.invariant.kept;
            some = omega (arith, w.least-is, c.loop-score.invariant.some);
            least = λ s scores some low keeps. same ∙ c.loop-score.invariant.least s scores some (omega (arith, w.least-is, low)) (sym same ∙ keeps);
          }
    ]
