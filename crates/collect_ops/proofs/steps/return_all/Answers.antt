use Rattle.std.proofs.Common.{◌∙◌, arith}
use Rattle.collect_ops.proofs.Returning.{arrival_returns_all}
use Rattle.collect_ops.proofs.steps.return_all.Goals as goal

pub load-requires : goal.load-requires
load-requires g c =
    let desk = c.requires.desk in
    let emptying = c.requires.emptying in
    (emptying.2.of_table, omega (arith, desk.words), arrival_returns_all _ _ _ emptying.0 _ emptying.1 _ emptying.2.stands)

pub returns : goal.returns
returns g c r xs is = record {
  of_table = c.load.ensures.0 ∙ c.requires.emptying.2.of_table;
  stands = c.load.ensures.2 _ _ _ _ is;
}
