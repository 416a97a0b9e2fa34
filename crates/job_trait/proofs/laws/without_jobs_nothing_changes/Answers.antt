use Rattle.job_trait.proofs.Histories.{leads_empty, empty_leads}
use Rattle.job_trait.proofs.laws.without_jobs_nothing_changes.Goals as goal

pub returns : goal.returns
returns g c = record { empty = leads_empty g.M.Meaning.runs; same = empty_leads g.M.Meaning.runs }
