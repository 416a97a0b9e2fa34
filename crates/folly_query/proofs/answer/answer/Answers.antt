use Rattle.query_model.specs.Output.{output}
use Rattle.folly_query.proofs.answer.answer.Goals as goal

pub returns-clause-writes : goal.returns-clause-writes
unfolding output
returns-clause-writes g c = c.answer_named.ensures.writes
