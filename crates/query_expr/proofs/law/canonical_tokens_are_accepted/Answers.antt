use Rattle.query_expr.proofs.Nesting.{keeps}
use Rattle.query_expr.proofs.law.canonical_tokens_are_accepted.Goals as goal

pub returns : goal.returns
returns c = λ tokens tree a. keeps tokens tree a
