use Rattle.std.proofs.Common.{◌∙◌, sym}
use Rattle.semi_defer.proofs.Endings.{job_there}
use Rattle.semi_defer.proofs.home.DeferredHome.close.Goals as goal

pub returns-clause-job : goal.returns-clause-job
returns-clause-job g c word = job_there _ _ c.closed.ensures.values.2 (sym c.of.ensures.word ∙ word) _ c.of.ensures.job
