use Rattle.run_notes.proofs.Putting.{tasks_put}
use Rattle.run_notes.proofs.laws.messages_are_tasks.Goals as goal

pub returns : goal.returns
returns c = tasks_put
