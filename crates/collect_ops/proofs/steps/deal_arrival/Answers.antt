use Rattle.std.proofs.Common.{arith}
use Rattle.collect_ops.proofs.Dealing.{deals_arrival}
use Rattle.collect_ops.proofs.steps.deal_arrival.Goals as goal

pub split_seat-requires : goal.split_seat-requires
split_seat-requires g c =
    let desk = c.requires.desk in
    let dealing = c.requires.dealing in
    (dealing.1.of_table, omega (arith, desk.words), deals_arrival _ _ dealing.0 _ _ c.requires.below dealing.1.stands)
