use Rattle.job_trait.proofs.Histories.{runs_done}
use Rattle.job_trait.proofs.laws.all_jobs_were_done.Goals as goal

pub returns : goal.returns
returns g c = runs_done g.M.Meaning.runs g.F.WorldFact.holds
