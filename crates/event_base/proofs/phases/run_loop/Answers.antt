use Rattle.event_base.proofs.SoFar.{loop_end}
use Rattle.event_base.proofs.phases.run_loop.Goals as goal

pub returns : goal.returns
returns g c =
    loop_end g.J.Headed.head g.J.LoopJob.runs 65536 _ (c.args.world.now, c.args.agenda.now) _ _ _ c.begin_phase.ensures c.end_phase.ensures c.run_phase-count.ensures.ran c.run_phase-count.ensures.within c.run_phase-count.ensures.ended
