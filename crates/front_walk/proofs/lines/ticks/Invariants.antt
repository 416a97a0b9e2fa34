use Rattle.std.proofs.Common.{length}
use Rattle.front_walk.proofs.Firing.{Begun}
use Rattle.front_walk.proofs.lines.ticks.Given as goal

abbrev pub invariant-firing : goal.invariant-firing
invariant-firing g l = Begun g.H.AtTurn.does l.fn.lines l.fn.i l.fn.n l.fn.state l.fn.hook l.state l.hook

abbrev pub decreases-firing : goal.decreases-firing
decreases-firing g l = length l.state.timers.fired
