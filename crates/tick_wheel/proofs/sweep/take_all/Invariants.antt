use Rattle.tick_wheel.proofs.SweepLoop.{SweepsSo}
use Rattle.tick_wheel.proofs.sweep.take_all.Given as goal

abbrev pub invariant-loop-place : goal.invariant-loop-place
invariant-loop-place g l = SweepsSo g.X.Handout.handout l.ids l.place l.fn.book l.book l.given
