use Rattle.std.proofs.Common.{eqb, take, drop, w8, sym, ap, ◌∙◌, arith}
use Rattle.std.proofs.lemmas.Bool.{cond-true, cond-false, eq-eqb, ne_eqb}
use Rattle.std.proofs.lemmas.Simd.{bitmask_splat, first_set_mask_l, length-chunk}
use lib.Count.{count_trailing_zeros}
use Rattle.query_text.proofs.cut.lanes_before.Goals as goal

pub returns-then-marks-eq0 : goal.returns-then-marks-eq0
returns-then-marks-eq0 c =
    let lanes = take 16 (drop c.args.from c.args.bytes.now) in
    let many = length-chunk c.args.from 16 c.args.bytes.now c.requires in
    let marks = bitmask_splat w8 eqb lanes 16 c.args.at many (omega arith) in
    sym (cond-true _ _ _ (eq-eqb _ _ (sym marks ∙ c.if-marks-eq0.true))) ∙ first_set_mask_l (λ byte. eqb byte c.args.at) lanes 16 many (omega arith)

pub returns-else-marks-eq0 : goal.returns-else-marks-eq0
returns-else-marks-eq0 c =
    let lanes = take 16 (drop c.args.from c.args.bytes.now) in
    let many = length-chunk c.args.from 16 c.args.bytes.now c.requires in
    let marks = bitmask_splat w8 eqb lanes 16 c.args.at many (omega arith) in
    ap (count_trailing_zeros 64) marks
    ∙ (sym (cond-false _ _ _ (ne_eqb _ _ (λ none. c.if-marks-eq0.false (marks ∙ none)))) ∙ first_set_mask_l (λ byte. eqb byte c.args.at) lanes 16 many (omega arith))
