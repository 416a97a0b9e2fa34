use Rattle.std.proofs.Common.{ap, ◌∙◌}
use Rattle.pool_model.specs.Seen.{EndSeen}
use Rattle.pool_tests.proofs.Lists.{two_numbered, two_ends}
use Rattle.pool_tests.proofs.tests.two.begin_with_two.Goals as goal

pub begin_with-requires-clause-owner : goal.begin_with-requires-clause-owner
begin_with-requires-clause-owner g c = c.requires.owner

pub begin_with-requires-clause-passes : goal.begin_with-requires-clause-passes
begin_with-requires-clause-passes g c =
    c.passes_in_order_are_all.ensures _ _ _ (two_numbered c.args.pool.now 3 3 c.args.passes.0 c.args.passes.1 c.list_of_both-passes.result.items c.requires.adders c.requires.first c.requires.second c.list_of_both-passes.ensures)

pub begin_with-requires-clause-helped : goal.begin_with-requires-clause-helped
begin_with-requires-clause-helped g c =
    let first = ap (λ (e : EndSeen). e.pool) c.end.ensures ∙ c.requires.helpers.2 in
    let second = ap (λ (e : EndSeen). e.pool) c.end-2.ensures ∙ c.requires.helpers.1 in
    two_ends c.args.pool.now c.end.result c.end-2.result c.list_of_both-helped.result.items c.requires.helpers.0 first second c.list_of_both-helped.ensures

pub returns : goal.returns
returns g c = c.begin_with.ensures
