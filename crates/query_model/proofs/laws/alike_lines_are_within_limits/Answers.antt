use Rattle.query_model.proofs.AlikeLaws.{alike_within, without_within}
use Rattle.query_model.proofs.laws.alike_lines_are_within_limits.Goals as goal

pub returns-clause-alike : goal.returns-clause-alike
returns-clause-alike c = λ lines others shards alike each limits. alike_within lines others alike shards each limits

pub returns-clause-without : goal.returns-clause-without
returns-clause-without c = λ lines shards limits. without_within lines shards limits
