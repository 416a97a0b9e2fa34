use Rattle.std.proofs.Common.{◌≤◌, get_or, arith}
use Rattle.std.proofs.lemmas.Grind.{common_steps}
use Rattle.query_words.proofs.NumberLemmas.{capped_more}
use Rattle.query_words.proofs.number.capped_value.Goals as goal

pub loop-digit-preserved : goal.loop-digit-preserved
loop-digit-preserved c =
    let low : 48 ≤ get_or c.args.digits.now c.loop-digit.digit-index 0 = grind arith in
    let high : get_or c.args.digits.now c.loop-digit.digit-index 0 ≤ 57 = grind arith in
    record {
      digits = grind (arith, common_steps);
      value = rw (c.min-value.ensures, c.from.ensures) (capped_more c.args.digits.now c.loop-digit.digit-index c.loop-digit.value c.loop-digit-test.true low high c.loop-digit.invariant.value);
    }
