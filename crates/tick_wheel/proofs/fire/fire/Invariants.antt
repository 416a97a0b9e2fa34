use Rattle.tick_wheel.proofs.FireLoop.{FiresSo}
use Rattle.tick_wheel.proofs.fire.fire.Given as goal

abbrev pub invariant-loop-place : goal.invariant-loop-place
invariant-loop-place g l = FiresSo g.X.Handout.handout l.now l.keys l.place l.fn.book l.fn.steps l.book l.fired l.steps
