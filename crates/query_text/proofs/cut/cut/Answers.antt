use Rattle.std.proofs.Common.{◌+◌, ◌++◌, ◌∷◌, eqb, take, sym, ap, ◌∙◌, arith}
use Rattle.std.proofs.lemmas.List.{take_rest}
use Rattle.std.proofs.lemmas.List.Sums.{fails_before_first}
use Rattle.query_text.proofs.FirstLemmas.{cut_here, front_clear}
use Rattle.query_text.proofs.cut.cut.Goals as goal

pub returns-then-place-bytes-clause-front : goal.returns-then-place-bytes-clause-front
returns-then-place-bytes-clause-front c = front_clear c.args.at c.args.bytes.now c.before-place.result c.before-place.ensures

pub returns-then-place-bytes-clause-whole : goal.returns-then-place-bytes-clause-whole
returns-then-place-bytes-clause-whole c =
    cut_here c.args.at c.args.bytes.now c.before-place.result c.before-place.ensures c.if-place-bytes.true
    ∙ ap (λ after. take c.before-place.result c.args.bytes.now ++ c.args.at ∷ after) (sym (take_rest c.args.bytes.now (c.before-place.result + 1)))

pub returns-else-place-bytes-clause-front : goal.returns-else-place-bytes-clause-front
returns-else-place-bytes-clause-front c k d inside =
    fails_before_first (λ byte. eqb byte c.args.at) c.args.bytes.now k d (omega (arith, c.before-place.ensures))
