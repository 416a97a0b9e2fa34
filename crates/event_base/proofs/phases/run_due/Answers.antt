use Rattle.event_base.proofs.SoFar.{all_step}
use Rattle.event_base.proofs.phases.run_due.Goals as goal

pub loop-job-preserved : goal.loop-job-preserved
loop-job-preserved g c =
    all_step g.J.Headed.head g.J.LoopJob.runs _ _ _ _ c.in-Some.job _ c.run-mark.result _ c.loop-job.invariant c.in-Some.ensures.items c.run-mark.ensures.mark c.run-mark.ensures.meaning c.run-mark.ensures.calls
