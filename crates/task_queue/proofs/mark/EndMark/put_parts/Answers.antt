use Rattle.std.proofs.Common.{rules}
use Rattle.task_queue.proofs.Marking.{meets}
use Rattle.task_queue.proofs.mark.EndMark.put_parts.Goals as goal

pub join_seat-requires : goal.join_seat-requires
join_seat-requires c = (search rules, search rules, search rules, search rules, meets _ _ _ _ _)
