use Rattle.std.proofs.Common.{ap}
use Rattle.event_base.proofs.Behind.{left_behind}
use Rattle.event_base.specs.Seen.{AgendaSeen}
use Rattle.event_base.proofs.laws.held_after_a_loop_phase.Goals as goal

pub returns : goal.returns
returns g c = record {
  loops = left_behind g.J.Headed.head g.J.LoopJob.runs;
  later = λ limit p q turns phase. (ap (λ (a : AgendaSeen g.row.J.Denot). a.later) phase.ended, ap (λ (a : AgendaSeen g.row.J.Denot). a.in_loop) phase.ended);
}
