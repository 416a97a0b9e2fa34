use Rattle.run_notes.proofs.Noting.{those_of_the_run}
use Rattle.run_notes.proofs.laws.notes_are_those_of_the_run.Goals as goal

pub returns : goal.returns
returns c = those_of_the_run
