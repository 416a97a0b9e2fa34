-- Which inputs are read of some bytes. Nothing here speaks of bytes.
use Rattle.std.specs.Prelude.{ℕ, ◌≡◌, true, All}
use Rattle.fan_base.specs.Word.{is_word}
use Rattle.query_grammar.specs.Canonical.{canonical_tokens}
use Rattle.query_grammar.specs.Faults as grammar
use Rattle.query_grammar.specs.Tree.{Tree}
use Rattle.query_model.specs.declared.line.Ask.{Ask}
use Rattle.query_model.specs.declared.line.Ask.TheVariants as ask
use Rattle.query_model.specs.declared.line.Input.{Input}
use Rattle.query_model.specs.declared.line.Line.{Line}
use Rattle.query_model.specs.declared.line.Line.TheVariants as line
use Rattle.query_model.specs.Documents.{IsWithinLimits}

-- each word of a tree is one
abbrev pub HasWords : Tree → Type 0
HasWords (Tree.word w) = is_word w ≡ true
HasWords (Tree.not e) = HasWords e
HasWords (Tree.both a b) = HasWords a × HasWords b
HasWords (Tree.either a b) = HasWords a × HasWords b

-- an expression that some tokens are: its canonical tokens are neither too many nor too deep
pub record IsExpression (tree : Tree) : Type 0 where
  pub words : HasWords tree
  pub accepted : grammar.Accepts (canonical_tokens tree) tree

abbrev pub AsksExpression : Ask → Type 0
AsksExpression (ask.Find e) = IsExpression e
AsksExpression (ask.Count e) = IsExpression e
AsksExpression (ask.Present e) = IsExpression e
AsksExpression (ask.Top k words) = Unit {0}

-- where a line asks by an expression, it is one that some tokens are
abbrev pub HasExpression : Line → Type 0
HasExpression (line.Doc _) = Unit {0}
HasExpression (line.Query query) = AsksExpression query.ask
HasExpression (line.Tick _) = Unit {0}
HasExpression (line.Cancel _) = Unit {0}

-- the input is one that some bytes are accepted as, for so many shards
pub record CanBeRead (shards : ℕ) (input : Input) : Type 0 where
  pub limits : IsWithinLimits input.lines shards
  pub expressions : All HasExpression input.lines
