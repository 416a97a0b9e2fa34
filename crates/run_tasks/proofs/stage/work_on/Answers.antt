use Rattle.run_tasks.proofs.WorldLemmas.{leads-done, leads-follow, leads-tally}
use Rattle.run_tasks.proofs.stage.work_on.Goals as goal

pub returns-clause-marks : goal.returns-clause-marks
returns-clause-marks g c = leads-done _ _ _ c.work.ensures.ran

pub returns-clause-tally : goal.returns-clause-tally
returns-clause-tally g c = leads-tally _ _ _ c.work.ensures.ran

pub returns-clause-follows : goal.returns-clause-follows
returns-clause-follows g c = leads-follow _ _ _ c.work.ensures.ran
