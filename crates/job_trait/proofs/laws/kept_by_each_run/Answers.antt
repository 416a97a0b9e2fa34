use Rattle.job_trait.proofs.Histories.{leads_keeps}
use Rattle.job_trait.proofs.laws.kept_by_each_run.Goals as goal

pub returns : goal.returns
returns g c = leads_keeps g.M.Meaning.runs g.F.WorldFact.holds
