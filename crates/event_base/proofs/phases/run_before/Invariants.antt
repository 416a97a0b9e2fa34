use Rattle.std.proofs.Common.{◌≡◌, length}
use Rattle.event_base.proofs.SoFar.{BeforeSoFar}
use Rattle.event_base.proofs.phases.run_before.Given as goal

abbrev pub invariant-loop : goal.invariant-loop
invariant-loop g l = record {
  ran : BeforeSoFar g.J.Headed.head g.J.LoopJob.runs (l.initial.world, l.initial.agenda) l.counter (l.world, l.agenda);
  count : l.count ≡ length l.initial.agenda.before;
}
