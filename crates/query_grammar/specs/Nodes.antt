-- The tree that a node is the top of.
use Rattle.query_grammar.specs.declared.expr.Node.{Node}
use Rattle.query_grammar.specs.declared.expr.Node.TheVariants as node
use Rattle.query_grammar.specs.Tree.{Tree}

abbrev pub tree_at : Node → Tree
tree_at (node.Word w) = Tree.word w
tree_at (node.Not e) = Tree.not e.value
tree_at (node.Both a b) = Tree.both a.value b.value
tree_at (node.Either a b) = Tree.either a.value b.value
