use Rattle.query_expr.proofs.Answered.{finds_tree, finds_fault}
use Rattle.query_expr.proofs.parsing.parse.Goals as goal

pub returns-clause-accepts : goal.returns-clause-accepts
returns-clause-accepts c = finds_tree c.args.tokens.now _ c.read_all.ensures.accepted c.read_all.ensures.refused

pub returns-clause-refuses : goal.returns-clause-refuses
returns-clause-refuses c = finds_fault c.args.tokens.now _ c.read_all.ensures.accepted c.read_all.ensures.refused
