use Rattle.front_walk.proofs.Walking.{Walked}
use Rattle.front_walk.proofs.front.walk_on.Given as goal

abbrev pub invariant-lines : goal.invariant-lines
invariant-lines g l = Walked g.H.AtTurn.does l.fn.lines l.i l.fn.hook l.state l.hook
