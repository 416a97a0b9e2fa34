use Rattle.std.proofs.Common.{arith}
use Rattle.pool_tests.proofs.Lists.{none_of_two, both_are}
use Rattle.pool_tests.proofs.tests.two.both_of.Goals as goal

pub destroy_empty-requires : goal.destroy_empty-requires
destroy_empty-requires g c =
    let left = c.last_of-first.new.list in
    omega (arith, none_of_two c.args.list.items c.last_of-second.new.list.items left.items c.last_of-first.result c.last_of-second.result c.last_of-second.ensures c.last_of-first.ensures c.requires, left.ok.0)

pub returns : goal.returns
returns g c =
    both_are c.args.list.items c.last_of-second.new.list.items c.last_of-first.new.list.items c.last_of-first.result c.last_of-second.result c.last_of-second.ensures c.last_of-first.ensures c.requires
