use Rattle.run_gathering.proofs.Looped.{LoopsSoFar}
use Rattle.run_gathering.proofs.looping.until_closed.Given as goal

abbrev pub invariant-loop : goal.invariant-loop
invariant-loop g l = LoopsSoFar l.initial.world l.initial.base l.world l.base
