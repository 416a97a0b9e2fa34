use Rattle.run_plan.proofs.Coming.{begun_of_run, cancelled_of_run}
use Rattle.run_plan.proofs.laws.turns_are_of_the_run.Goals as goal

pub returns-clause-begun : goal.returns-clause-begun
returns-clause-begun g c = λ turns place query are input countable at. begun_of_run g.N.RunName.asked turns place query c.comings_are_queries.ensures.number are input countable at

pub returns-clause-cancelled : goal.returns-clause-cancelled
returns-clause-cancelled g c = λ turns place number are at. cancelled_of_run g.N.RunName.asked turns place number are at
