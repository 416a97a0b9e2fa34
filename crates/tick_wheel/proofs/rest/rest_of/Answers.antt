use Rattle.std.proofs.Common.{arith}
use Rattle.tick_wheel.proofs.Rested.{rested_back, given_back}
use Rattle.tick_wheel.proofs.rest.rest_of.Goals as goal

pub invariant_of-result : goal.invariant_of-result
invariant_of-result g c =
    (rested_back c.args.book c.into_cells-cells.result.items c.deref_mut.result.now c.order.new.cells _ _ c.requires.apart c.requires.fits c.into_cells-cells.ensures
    c.deref_mut.ensures.value c.order.ensures.same c.order.ensures.rises
    (given_back c.order.new.cells c.into_cells-cells.result.items _ (let a = c.order.auto.cells in let b = c.deref_mut.ensures.len in omega arith)) c.len-left.ensures).0

pub returns : goal.returns
returns g c =
    (rested_back c.args.book c.into_cells-cells.result.items c.deref_mut.result.now c.order.new.cells _ _ c.requires.apart c.requires.fits c.into_cells-cells.ensures
    c.deref_mut.ensures.value c.order.ensures.same c.order.ensures.rises
    (given_back c.order.new.cells c.into_cells-cells.result.items _ (let a = c.order.auto.cells in let b = c.deref_mut.ensures.len in omega arith)) c.len-left.ensures).1
