use Rattle.front_walk.proofs.Leaving.{GivenUp}
use Rattle.front_walk.proofs.front.give_up.Given as goal

abbrev pub invariant-numbers : goal.invariant-numbers
invariant-numbers g l = GivenUp g.H.AtTurn.does l.fn.lines l.earlier l.fn.state l.fn.hook l.state l.hook
