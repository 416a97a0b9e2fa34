use Rattle.std.proofs.Common.{ap}
use Rattle.task_queue.specs.Seen.{GatheredSeen}
use Rattle.task_queue.proofs.Settling.{settled}
use Rattle.task_queue.proofs.queue.TaskQueue.settle.Goals as goal

pub returns : goal.returns
returns g c = settled c.args.gathered _ _ (ap (λ (x : GatheredSeen). x.added) c.gathered.view_is) (ap (λ (x : GatheredSeen). x.taken) c.gathered.view_is) c.drain.ensures
