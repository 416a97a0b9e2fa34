use Rattle.std.proofs.Common.{true, subst, sym, arith, rules}
use Rattle.tick_wheel.specs.Table.{Index}
use Rattle.tick_wheel.proofs.CascadeLoop.{CascadesSo}
use Rattle.tick_wheel.proofs.Counting.{in_slot-le}
use Rattle.tick_wheel.proofs.cascade.cascade.Goals as goal

pub loop-more-init : goal.loop-more-init
loop-more-init g c =
    subst (λ (index : Index g.row.T.Denot). CascadesSo c.args.first c.args.width c.args.now true c.args.book.now c.args.steps.now index c.args.steps.now) (sym c.touch_slot.ensures)
    (search rules)

pub returns-in_err-more-clause-steps : goal.returns-in_err-more-clause-steps
returns-in_err-more-clause-steps g c =
    let le = in_slot-le c.args.book.now c.args.first c.args.width c.args.now c.requires.apart c.requires.ahead c.requires.wheel c.if-tick-width-ne0.false in
    omega (arith, le, c.loop-more.invariant.counted, c.place_last.ensures.steps)

pub returns-clause-steps : goal.returns-clause-steps
returns-clause-steps g c =
    let le = in_slot-le c.args.book.now c.args.first c.args.width c.args.now c.requires.apart c.requires.ahead c.requires.wheel c.if-tick-width-ne0.false in
    omega (arith, le, c.loop-more.invariant.counted)
