-- The canonical phrases of a tree.
use Rattle.std.specs.Prelude.{List}
use Rattle.query_grammar.specs.declared.token.Token.{Token}
use Rattle.query_grammar.specs.Grammar.{Kind, Phrase, tokens_of}
use Rattle.query_grammar.specs.Faults as grammar
use Rattle.query_grammar.specs.Tree.{Tree}

-- as a fact, as a both and as an either
pub record Phrases : Type 0 where
  pub fact : Phrase Kind.fact
  pub both : Phrase Kind.both
  pub either : Phrase Kind.either

abbrev pub from_fact : Phrase Kind.fact → Phrases
from_fact f = record { fact = f; both = Phrase.one_fact f; either = Phrase.one_both (Phrase.one_fact f) }

abbrev pub from_both : Phrase Kind.both → Phrases
from_both b = record { fact = Phrase.brackets (Phrase.one_both b); both = b; either = Phrase.one_both b }

abbrev pub from_either : Phrase Kind.either → Phrases
from_either e = record { fact = Phrase.brackets e; both = Phrase.one_fact (Phrase.brackets e); either = e }

-- Brackets stand where a phrase of a tree could not stand without them.
abbrev pub phrases_of : Tree → Phrases
phrases_of (Tree.word w) = from_fact (Phrase.word w)
phrases_of (Tree.not e) = from_fact (Phrase.bang (phrases_of e).fact)
phrases_of (Tree.both a b) = from_both (Phrase.beside (phrases_of a).both (phrases_of b).fact)
phrases_of (Tree.either a b) = from_either (Phrase.bar (phrases_of a).either (phrases_of b).both)

-- the tokens of the canonical text
abbrev pub canonical_tokens : Tree → List Token
canonical_tokens tree = tokens_of (phrases_of tree).either

-- where some tokens are accepted with a tree, the canonical tokens of that tree are
abbrev pub KeepsCanonical : Type 0
KeepsCanonical = (tokens : List Token) (tree : Tree) → grammar.Accepts tokens tree → grammar.Accepts (canonical_tokens tree) tree
