use Rattle.pool_model.proofs.Histories.{outs_ascend}
use Rattle.pool_model.proofs.Lawful.{accepted_differ, left_differ}
use Rattle.pool_model.proofs.laws.tasks_leave_once.Goals as goal

pub returns-clause-accepted : goal.returns-clause-accepted
returns-clause-accepted c = accepted_differ

pub returns-clause-left : goal.returns-clause-left
returns-clause-left c = left_differ

pub returns-clause-ascend : goal.returns-clause-ascend
returns-clause-ascend c = outs_ascend
