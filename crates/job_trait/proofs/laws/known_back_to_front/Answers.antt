use Rattle.job_trait.proofs.Histories.{leads_tells}
use Rattle.job_trait.proofs.laws.known_back_to_front.Goals as goal

pub returns : goal.returns
returns g c = leads_tells g.M.Meaning.runs g.F.WorldFact.holds g.R.RunFact.holds
