use Rattle.tick_wheel.proofs.Cascading.{settled_steps, settled_part}
use Rattle.tick_wheel.proofs.cascade.settle.Goals as goal

pub returns-in_err-cascade-2-clause-steps : goal.returns-in_err-cascade-2-clause-steps
returns-in_err-cascade-2-clause-steps g c =
    settled_part c.args.now c.args.book.now c.cascade.new.book c.args.steps.now c.cascade.new.steps c.cascade-2.new.steps c.requires.apart c.cascade.ensures.apart c.cascade.ensures.same.same
    c.cascade.ensures.steps c.cascade-2.ensures.steps

pub returns-clause-steps : goal.returns-clause-steps
returns-clause-steps g c =
    settled_steps c.args.now c.args.book.now c.cascade.new.book c.cascade-2.new.book c.args.steps.now c.cascade.new.steps c.cascade-2.new.steps c.cascade-3.new.steps
    c.requires.apart c.cascade.ensures.apart c.cascade-2.ensures.apart c.cascade.ensures.same.same c.cascade-2.ensures.same.same
    c.cascade.ensures.steps c.cascade-2.ensures.steps c.cascade-3.ensures.steps
