use Rattle.run_notes.proofs.Tasks.{all_tasks}
use Rattle.run_notes.proofs.laws.accepted_or_late.Goals as goal

pub returns : goal.returns
returns c = λ asked told report. all_tasks asked told c.early_or_late.ensures c.a_task_for_each_shard.ensures report
