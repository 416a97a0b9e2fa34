use Rattle.job_trait.proofs.Histories.{leads-append, leads-part}
use Rattle.job_trait.proofs.laws.one_list_after_another.Goals as goal

pub returns : goal.returns
returns g c = record { append = leads-append g.M.Meaning.runs; part = leads-part g.M.Meaning.runs }
