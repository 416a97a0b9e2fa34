use Rattle.std.proofs.Common.{arith}
use Rattle.collect_ops.proofs.Dealing.{deals_owner}
use Rattle.collect_ops.proofs.steps.deal_owner.Goals as goal

pub split_seat-requires : goal.split_seat-requires
split_seat-requires g c =
    let desk = c.requires.desk in
    let opened = c.requires.opened in
    (opened.1.of_table, omega (arith, desk.words), deals_owner _ _ opened.0 _ opened.1.stands)
