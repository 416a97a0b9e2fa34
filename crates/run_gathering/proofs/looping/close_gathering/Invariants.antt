use Rattle.std.proofs.Common.{◌≡◌, [], length}
use Rattle.event_base.specs.Closing.{held_by}
use Rattle.notify_queue.specs.Ends.{IsDry}
use Rattle.run_gathering.proofs.looping.close_gathering.Given as goal

abbrev pub invariant-loop-job : goal.invariant-loop-job
invariant-loop-job g l = IsDry l.fn.stage.base.queue → held_by l.fn.stage.base.agenda ≡ [] → (l.rest.jobs ≡ []) × (l.tally ≡ l.fn.stage.tally)

abbrev pub decreases-loop-job : goal.decreases-loop-job
decreases-loop-job g l = length l.rest.jobs
