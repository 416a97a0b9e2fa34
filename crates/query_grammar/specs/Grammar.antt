-- The grammar of expressions, over lists of tokens.
use Rattle.std.specs.Prelude.{◌≡◌, List, [], ◌∷◌, ◌++◌}
use Rattle.fan_base.specs.declared.word.Word.{Word}
use Rattle.query_grammar.specs.declared.token.Token.{Token}
use Rattle.query_grammar.specs.declared.token.Token.TheVariants as token
use Rattle.query_grammar.specs.Tree.{Tree}

-- what a phrase is by the grammar
pub data Kind : Type 0 where
  fact : Kind
  both : Kind
  either : Kind

-- The phrases, one constructor for each way in which the grammar forms one.
pub data Phrase : Kind → Type 0 where
  -- fact = word | Bang fact | Left either Right
  word : Word → Phrase Kind.fact
  bang : Phrase Kind.fact → Phrase Kind.fact
  brackets : Phrase Kind.either → Phrase Kind.fact
  -- both = fact { fact }, grouped from the left
  one_fact : Phrase Kind.fact → Phrase Kind.both
  beside : Phrase Kind.both → Phrase Kind.fact → Phrase Kind.both
  -- either = both { Bar both }, grouped from the left
  one_both : Phrase Kind.both → Phrase Kind.either
  bar : Phrase Kind.either → Phrase Kind.both → Phrase Kind.either

-- the tokens of a phrase
abbrev pub tokens_of : {kind : Kind} → Phrase kind → List Token
tokens_of (word w) = token.Word w ∷ []
tokens_of (bang f) = token.Bang ∷ tokens_of f
tokens_of (brackets e) = token.Left ∷ (tokens_of e ++ token.Right ∷ [])
tokens_of (one_fact f) = tokens_of f
tokens_of (beside b f) = tokens_of b ++ tokens_of f
tokens_of (one_both b) = tokens_of b
tokens_of (bar e b) = tokens_of e ++ (token.Bar ∷ tokens_of b)

-- the tree of a phrase, in which brackets leave no trace
abbrev pub tree_of : {kind : Kind} → Phrase kind → Tree
tree_of (word w) = Tree.word w
tree_of (bang f) = Tree.not (tree_of f)
tree_of (brackets e) = tree_of e
tree_of (one_fact f) = tree_of f
tree_of (beside b f) = Tree.both (tree_of b) (tree_of f)
tree_of (one_both b) = tree_of b
tree_of (bar e b) = Tree.either (tree_of e) (tree_of b)

-- the tokens are an expression with this tree
abbrev pub Reads : List Token → Tree → Type 0
Reads tokens tree = (p : Phrase Kind.either) × (tokens_of p ≡ tokens) × (tree_of p ≡ tree)

-- some expression begins with the tokens
abbrev pub CanGoOn : List Token → Type 0
CanGoOn tokens = (p : Phrase Kind.either) × (more : List Token) × (tokens_of p ≡ tokens ++ more)
