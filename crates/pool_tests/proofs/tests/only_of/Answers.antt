use Rattle.std.proofs.Common.{arith}
use Rattle.pool_tests.proofs.Lists.{none_left, one_is}
use Rattle.pool_tests.proofs.tests.only_of.Goals as goal

pub destroy_empty-requires : goal.destroy_empty-requires
destroy_empty-requires g c =
    omega (arith, none_left c.args.list.items c.last_of-item.new.list.items c.last_of-item.result c.last_of-item.ensures c.requires, c.last_of-item.new.list.ok.0)

pub returns : goal.returns
returns g c = one_is c.args.list.items c.last_of-item.new.list.items c.last_of-item.result c.last_of-item.ensures c.requires
