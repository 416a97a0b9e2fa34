use Rattle.job_trait.proofs.Histories.{runs_none, runs_one, runs-append}
use Rattle.job_trait.proofs.laws.all_jobs_of_two_lists.Goals as goal

pub returns : goal.returns
returns g c = record { none = runs_none g.M.Meaning.runs; one = runs_one g.M.Meaning.runs; append = runs-append g.M.Meaning.runs }
