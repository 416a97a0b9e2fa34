-- Each part of an expression is smaller than the expression.
use Rattle.std.specs.Prelude.{◌≤◌, max}
use Rattle.std.proofs.Common.{arith}
use Rattle.query_grammar.specs.declared.expr.Node.{Node}
use Rattle.query_grammar.specs.declared.expr.Node.TheVariants as node
use Rattle.query_grammar.specs.declared.expr.Expr.TheDeep.{deep-Node}
use Rattle.query_grammar.specs.Tree.{size_of}
use Rattle.query_grammar.specs.Nodes.{tree_at}

pub falls : (n : Node) → max (deep-Node n) 0 ≤ size_of (tree_at n)
falls (node.Word w) = omega arith
falls (node.Not e) = omega arith
falls (node.Both a b) = omega arith
falls (node.Either a b) = omega arith
