use Rattle.std.proofs.Common.{◌∙◌, arith}
use Rattle.collect_ops.proofs.Claiming.{arrival_returns_end}
use Rattle.collect_ops.proofs.steps.return_end.Goals as goal

pub load-requires : goal.load-requires
load-requires g c =
    let desk = c.requires.desk in
    let claiming = c.requires.claiming in
    (claiming.1.of_table, omega (arith, desk.words), arrival_returns_end _ _ _ claiming.0 _ _ claiming.1.stands)

pub returns : goal.returns
returns g c r is = record {
  of_table = c.load.ensures.0 ∙ c.requires.claiming.1.of_table;
  stands = c.load.ensures.2 _ _ _ is;
}
