use Rattle.std.proofs.Common.{◌≡◌, ◌+◌, ◌<◌, ◌++◌, ◌∷◌, [], ℕ, List, take, zip, length, ap, sym, ◌∙◌, arith, get_or}
use Rattle.std.proofs.lemmas.List.{take_all, take_more}
use Rattle.std.proofs.lemmas.Slice.Zip.{length-zip}
use Rattle.query_model.specs.Answers.{ranked}
use Rattle.shard_index.proofs.ScoreLemmas.{one-kept, positive, too-small, zip-at}
use Rattle.shard_index.proofs.totals.first_of_all.Goals as goal
use Rattle.shard_index.proofs.totals.first_of_all.Goals.{then-totals-at+in_ok-keep_score, else-totals-at}

-- the pairs so far
abbrev rows : List ℕ → List ℕ → ℕ → List (ℕ × ℕ)
rows ids totals i = take i (zip ids totals)

rows-more : (ids totals : List ℕ) (i : ℕ) → i < length ids → i < length totals → rows ids totals (i + 1) ≡ rows ids totals i ++ (get_or ids i 0, get_or totals i 0) ∷ []
rows-more ids totals i a b =
    take_more (zip ids totals) i (0, 0) (omega (arith, length-zip ids totals)) ∙ ap (λ x. rows ids totals i ++ x ∷ []) (zip-at ids totals i a b)

pub loop-at-preserved : goal.loop-at-preserved
loop-at-preserved c =
    let ids = c.args.ids.now in
    let totals = c.args.totals.now in
    let at = c.loop-at.at in
    let within : at < length totals = omega (arith, c.loop-at-test.true) in
    let inside : at < length ids = omega (arith, c.requires, within) in
    let score : ℕ × ℕ = (get_or ids at 0, get_or totals at 0) in
    let longer = rows-more ids totals at inside within in
    elim c.if-totals-at.branch [
      | then-totals-at+in_ok-keep_score w ↦
          let same = ap (λ v. v.items) w.kept-is in
          record {
            kept =
                same
                ∙ (w.in_ok-keep_score.ensures (positive (rows ids totals at)) c.loop-at.invariant.kept
                ∙ one-kept c.args.k (rows ids totals at) (rows ids totals (at + 1)) score longer (omega (arith, w.if-totals-at.true, c.loop-at.invariant.some)));
            some = omega (arith, w.least-is, w.least_total-least.ensures.some);
            least = λ s scores some low keeps.
                same ∙ (sym w.as_slice.ensures.value
                ∙ w.least_total-least.ensures.least s scores some (omega (arith, w.least-is, low)) (w.as_slice.ensures.value ∙ (sym same ∙ keeps)));
          }
      | else-totals-at w ↦
          let same = ap (λ v. v.items) w.kept-is in
          record {
            kept =
                same ∙ too-small c.args.k c.loop-at.least c.loop-at.kept.items (rows ids totals at) (rows ids totals (at + 1)) score longer w.if-totals-at.false
                c.loop-at.invariant.least c.loop-at.invariant.kept;
            some = omega (arith, w.least-is, c.loop-at.invariant.some);
            least = λ s scores some low keeps. same ∙ c.loop-at.invariant.least s scores some (omega (arith, w.least-is, low)) (sym same ∙ keeps);
          }
    ]

pub returns : goal.returns
returns c =
    let all = zip c.args.ids.now c.args.totals.now in
    c.from_vec.ensures ∙ (c.loop-at.invariant.kept
    ∙ ap (λ (ps : List (ℕ × ℕ)). take c.args.k (ranked ps)) (take_all c.loop-at.at all (omega (arith, length-zip c.args.ids.now c.args.totals.now, c.requires))))
