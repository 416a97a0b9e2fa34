use Rattle.event_base.proofs.SoFar.{loop_step}
use Rattle.event_base.proofs.phases.run_phase.Goals as goal

pub loop-count-preserved : goal.loop-count-preserved
loop-count-preserved g c =
    loop_step g.J.Headed.head g.J.LoopJob.runs _ _ _ c.take_loop.new.self c.in-Some.job c.run-mark.result _ c.loop-count.invariant c.in-Some.ensures c.run-mark.ensures.mark c.run-mark.ensures.meaning c.run-mark.ensures.calls
