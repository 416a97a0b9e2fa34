use Rattle.std.proofs.Common.{Option, subst}
use Rattle.semi_defer.specs.declared.state.Chosen.TheVariants as chosen
use Rattle.semi_defer.specs.declared.deferring.DeferJob.{DeferJob}
use Rattle.semi_defer.specs.Answers.{ChoosesAt}
use Rattle.semi_defer.proofs.deferring.Deferred.via.Goals as goal

pub returns-in-Some-clause-answer : goal.returns-in-Some-clause-answer
returns-in-Some-clause-answer g c = (
  c.in-Some.job,
  c.on.ensures,
  subst (λ (o : Option (DeferJob g.row.T.Denot g.row.K.Denot g.row.U.Denot g.row.D.Denot g.row.Q.Denot)). ChoosesAt (chosen.Executor c.args.exec) o c.set_executor-job.result.1.did) c.in-Some.is c.set_executor-job.ensures.answer,
)
