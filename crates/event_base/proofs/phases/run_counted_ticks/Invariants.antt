use Rattle.event_base.proofs.SoFar.{TicksSoFar}
use Rattle.event_base.proofs.phases.run_counted_ticks.Given as goal

abbrev pub invariant-loop-made : goal.invariant-loop-made
invariant-loop-made g l = TicksSoFar g.J.Headed.head g.J.LoopJob.runs (l.initial.world, l.initial.agenda) l.made l.timers (l.world, l.agenda)
