use Rattle.run_tasks.proofs.LeavingLemmas.{leaves-by}
use Rattle.run_tasks.proofs.leave.leave_by_consumer.Goals as goal

pub returns : goal.returns
returns g c = leaves-by _ _ _ _ _ _ _ c.leave.ensures.home c.leave.ensures.use_number c.give_back_last.ensures
