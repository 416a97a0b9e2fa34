use Rattle.std.proofs.Common.{rules}
use Rattle.task_queue.proofs.Marking.{meets, agree_allowed}
use Rattle.task_queue.proofs.mark.EndMark.no_part_is_left.Goals as goal

pub join_seat-requires : goal.join_seat-requires
join_seat-requires c = (search rules, search rules, search rules, search rules, meets _ _ _ _ _)

pub load-requires : goal.load-requires
load-requires c = (search rules, search rules, agree_allowed _ _ _ _)
