use Rattle.std.proofs.Common.{length, ap, arith}
use Rattle.prio_pool.proofs.Finishing.{counted, came_back}
use Rattle.prio_pool.proofs.pool.Pool.finish.Goals as goal

pub hand_back-returned-requires-clause-count : goal.hand_back-returned-requires-clause-count
hand_back-returned-requires-clause-count g c =
    let e = c.end-accepted.ensures in
    omega (arith, c.len.ensures, e.accepted, ap length e.records, counted g.J.Headed.head _ _ _ c.args.ends.items c.args.helped.items _ _ e.came)

pub returns-clause-came : goal.returns-clause-came
returns-clause-came g c = came_back g.J.Headed.head _ _ _ c.args.ends.items c.args.helped.items _ _ _ c.end-accepted.ensures.came c.hand_back-returned.ensures

pub returns-clause-most : goal.returns-clause-most
returns-clause-most g c =
    let e = c.end-accepted.ensures in
    omega (arith, ap length c.hand_back-returned.ensures, e.most, e.accepted, ap length e.records, counted g.J.Headed.head _ _ _ c.args.ends.items c.args.helped.items _ _ e.came)
