use Rattle.pool_tests.proofs.Lists.{all_helped}
use Rattle.pool_tests.proofs.tests.begin_to_end.Goals as goal

pub begin_with-requires-clause-owner : goal.begin_with-requires-clause-owner
begin_with-requires-clause-owner g c = c.requires.owner_is

pub begin_with-requires-clause-helped : goal.begin_with-requires-clause-helped
begin_with-requires-clause-helped g c = all_helped c.args.pool.now c.args.adding.helper c.end_helper-helped.result.items c.requires.helps c.end_helper-helped.ensures

pub returns : goal.returns
returns g c = c.begin_with.ensures
