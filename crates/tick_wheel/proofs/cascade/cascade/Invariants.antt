use Rattle.std.proofs.Common.{◌+◌, cond}
use Rattle.tick_wheel.specs.Place.{turning_slot}
use Rattle.tick_wheel.specs.Table.{in_slot}
use Rattle.tick_wheel.proofs.CascadeLoop.{CascadesSo}
use Rattle.tick_wheel.proofs.cascade.cascade.Given as goal

abbrev pub invariant-loop-more : goal.invariant-loop-more
invariant-loop-more g l = CascadesSo l.first l.width l.now l.more l.fn.book l.fn.steps l.book l.steps

abbrev pub decreases-loop-more : goal.decreases-loop-more
decreases-loop-more g l = in_slot (turning_slot l.first l.width (l.now + 1)) l.book + cond l.more 1 0
