use Rattle.event_base.specs.SoFar.{LoopSoFar}
use Rattle.event_base.proofs.phases.run_phase.Given as goal

abbrev pub invariant-loop-count : goal.invariant-loop-count
invariant-loop-count g l = LoopSoFar g.J.Headed.head g.J.LoopJob.runs (l.initial.world, l.initial.agenda) l.count (l.world, l.agenda)
