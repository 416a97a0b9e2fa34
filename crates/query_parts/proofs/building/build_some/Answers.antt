use Rattle.std.proofs.Common.{length, arith}
use Rattle.std.proofs.lemmas.Result.{IfOk-weaker}
use Rattle.query_parts.proofs.BuildLemmas.{made-many, some-stand}
use Rattle.query_parts.proofs.building.build_some.Goals as goal

pub returns-clause-stand : goal.returns-clause-stand
returns-clause-stand g c = λ docs is. IfOk-weaker c.all_made.result _ _ (λ some are.
    some-stand docs c.args.shards c.args.first c.args.count c.in_ok-made.made.items some.items are (omega (arith, c.in_ok-made.ensures.len, c.in_ok-made.made.ok))
    (λ i d low. (c.in_ok-made.ensures.each i d low).1.met docs is)) c.all_made.ensures

pub returns-clause-many : goal.returns-clause-many
returns-clause-many g c = IfOk-weaker c.all_made.result _ _ (λ some are.
    made-many c.args.count c.in_ok-made.made.items some.items are (omega (arith, c.in_ok-made.ensures.len, c.in_ok-made.made.ok))) c.all_made.ensures
