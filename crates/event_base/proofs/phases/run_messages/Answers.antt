use Rattle.std.proofs.Common.{map, ap}
use Rattle.notify_queue.specs.declared.stamp.Stamped.{Stamped}
use Rattle.event_base.proofs.SoFar.{all_step}
use Rattle.event_base.proofs.phases.run_messages.Goals as goal

pub loop-message-preserved : goal.loop-message-preserved
loop-message-preserved g c =
    let message = λ (x : Stamped g.row.J.Denot). x.message in
    let first = ap (map message) c.in-Some.ensures.items in
    all_step g.J.Headed.head g.J.LoopJob.runs _ _ _ _ c.in-Some.field-0.message _ c.run-mark.result _ c.loop-message.invariant first c.run-mark.ensures.mark c.run-mark.ensures.meaning c.run-mark.ensures.calls
