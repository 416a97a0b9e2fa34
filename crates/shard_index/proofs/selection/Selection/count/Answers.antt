use Rattle.std.proofs.Common.{◌≡◌, ◌+◌, suc, List, [], ◌∷◌, Bool, true, false, not, cond, filter, length, ap, subst, ◌∙◌, arith}
use Rattle.fan_base.specs.declared.doc.Doc.{Doc}
use Rattle.shard_index.specs.declared.selection.Selection.{Selection}
use Rattle.shard_index.specs.Selections.{Selects}
use Rattle.shard_index.proofs.PlaceLemmas.{length-places}
use Rattle.shard_index.proofs.selection.Selection.count.Goals as goal

-- those that pass a test and those that don't are all
parted : (test : Doc → Bool) (docs : List Doc) → length (filter test docs) + length (filter (λ doc. not (test doc)) docs) ≡ length docs
parted test [] = omega arith
parted test (d ∷ ds) = by (test d) (filter test ds) (filter (λ doc. not (test doc)) ds) (parted test ds)
  where
    by : (b : Bool) (xs ys : List Doc) → length xs + length ys ≡ length ds → length (cond b (d ∷ xs) xs) + length (cond (not b) (d ∷ ys) ys) ≡ suc (length ds)
    by true xs ys more = omega (arith, more)
    by false xs ys more = omega (arith, more)

pub returns-in-Those : goal.returns-in-Those
returns-in-Those c = λ test docs many selects.
    let at = subst (λ (s : Selection). Selects s test docs) c.in-Those.is selects in
    let counted = ap length at ∙ length-places 0 test docs in
    omega (arith, counted, ap length c.as_slice.ensures)

pub returns-in-AllBut : goal.returns-in-AllBut
returns-in-AllBut c = λ test docs many selects.
    let at = subst (λ (s : Selection). Selects s test docs) c.in-AllBut.is selects in
    let counted = ap length at ∙ length-places 0 (λ doc. not (test doc)) docs in
    omega (arith, counted, parted test docs, many, c.saturating_sub.ensures, ap length c.as_slice-in-AllBut.ensures)
