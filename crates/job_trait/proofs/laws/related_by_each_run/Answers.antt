use Rattle.job_trait.proofs.Histories.{leads_relates}
use Rattle.job_trait.proofs.laws.related_by_each_run.Goals as goal

pub returns : goal.returns
returns g c = leads_relates g.M.Meaning.runs g.F.WorldRelation.relates
