use Rattle.query_model.specs.Output.{output}
use Rattle.fanout.proofs.run.fan_run.Goals as goal

pub returns-clause-writes : goal.returns-clause-writes
unfolding output
returns-clause-writes g c = c.fan_run_named.ensures.writes
