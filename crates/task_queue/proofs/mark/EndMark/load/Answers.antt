use Rattle.std.proofs.Common.{rules}
use Rattle.task_queue.proofs.Marking.{look_allowed}
use Rattle.task_queue.proofs.mark.EndMark.load.Goals as goal

pub load-requires : goal.load-requires
load-requires c = (search rules, search rules, look_allowed _ _ _ _)
