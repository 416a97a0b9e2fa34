use Rattle.run_tasks.proofs.WorldLemmas.{leads-done, leads-follow, leads-tally}
use Rattle.run_tasks.proofs.laws.tasks_keep_their_world.Goals as goal

pub returns-clause-follows : goal.returns-clause-follows
returns-clause-follows g c = leads-follow

pub returns-clause-done : goal.returns-clause-done
returns-clause-done g c = leads-done

pub returns-clause-tally : goal.returns-clause-tally
returns-clause-tally g c = leads-tally
