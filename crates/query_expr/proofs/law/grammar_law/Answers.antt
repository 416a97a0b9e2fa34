use Rattle.query_expr.proofs.Depths.{one_depth}
use Rattle.query_expr.proofs.Firsts.{one_tree, not_both, one_fault}
use Rattle.query_expr.proofs.Answered.{answered, unexpected_first, deep_at, some_depth}
use Rattle.query_expr.proofs.law.grammar_law.Goals as goal

pub returns-clause-one_tree : goal.returns-clause-one_tree
returns-clause-one_tree c = one_tree

pub returns-clause-answered : goal.returns-clause-answered
returns-clause-answered c = answered

pub returns-clause-not_both : goal.returns-clause-not_both
returns-clause-not_both c = not_both

pub returns-clause-one_fault : goal.returns-clause-one_fault
returns-clause-one_fault c = one_fault

pub returns-clause-unexpected : goal.returns-clause-unexpected
returns-clause-unexpected c = unexpected_first

pub returns-clause-too_deep : goal.returns-clause-too_deep
returns-clause-too_deep c = deep_at

pub returns-clause-some_depth : goal.returns-clause-some_depth
returns-clause-some_depth c = some_depth

pub returns-clause-one_depth : goal.returns-clause-one_depth
returns-clause-one_depth c = one_depth
