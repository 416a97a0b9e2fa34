use Rattle.job_trait.proofs.Histories.{leads_more, leads_last}
use Rattle.job_trait.proofs.laws.one_job_more.Goals as goal

pub returns : goal.returns
returns g c = record { more = leads_more g.M.Meaning.runs; last = leads_last g.M.Meaning.runs }
