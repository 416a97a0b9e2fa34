use Rattle.std.proofs.Common.{◌≡◌}
use Rattle.query_expr.specs.Steps.{negated}
use Rattle.query_expr.proofs.open.negated.Given as goal

abbrev pub invariant-loop : goal.invariant-loop
invariant-loop l = l.e ≡ negated l.counter l.fn.fact
