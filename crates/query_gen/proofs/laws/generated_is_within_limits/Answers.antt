use Rattle.query_gen.proofs.Limits.{generated_within}
use Rattle.query_gen.proofs.laws.generated_is_within_limits.Goals as goal

pub returns : goal.returns
returns c = generated_within
