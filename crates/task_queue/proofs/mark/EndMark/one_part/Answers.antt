use Rattle.std.proofs.Common.{◌<◌, rules, sym, subst}
use Rattle.task_queue.specs.Marks.{OpenSeen}
use Rattle.task_queue.proofs.Marking.{gives_part}
use Rattle.task_queue.proofs.mark.EndMark.one_part.Goals as goal

pub split_seat-requires : goal.split_seat-requires
split_seat-requires c = (
  search rules,
  search rules,
  gives_part _ _ _ (subst (λ (o : OpenSeen). 0 < o.parts) (sym c.adders.view_is) c.requires.left),
)
