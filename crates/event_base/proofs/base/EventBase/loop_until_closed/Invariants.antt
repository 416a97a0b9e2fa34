use Rattle.event_base.proofs.Looped.{RoundsSoFar}
use Rattle.event_base.proofs.base.EventBase.loop_until_closed.Given as goal

abbrev pub invariant-loop : goal.invariant-loop
invariant-loop g l = RoundsSoFar g.J.Headed.head g.J.LoopJob.runs l.initial.world l.initial.self l.rounds l.world l.self
