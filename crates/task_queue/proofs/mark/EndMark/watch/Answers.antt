use Rattle.std.proofs.Common.{rules}
use Rattle.task_queue.proofs.Marking.{gives_watch}
use Rattle.task_queue.proofs.mark.EndMark.watch.Goals as goal

pub split_seat-requires : goal.split_seat-requires
split_seat-requires c = (search rules, search rules, gives_watch _ _ _)
