-- Laws of the grammars, of which clauses speak.
use Rattle.std.specs.Prelude.{ℕ, ◌≡◌, ◌⊎◌, List}
use Rattle.query_grammar.specs.declared.token.Token.{Token}
use Rattle.query_grammar.specs.declared.fault.ExprFault.{ExprFault}
use Rattle.query_grammar.specs.Tree.{Tree}
use Rattle.query_grammar.specs.Faults as grammar
use Rattle.query_model.specs.declared.line.Input.{Input}
use Rattle.query_model.specs.declared.fault.BadInput.{BadInput}
use Rattle.query_model.specs.Pieces.{Bytes}
use Rattle.query_model.specs.Reading.{Accepts, Refuses}

-- The grammar of expressions decides: tokens have exactly one tree or exactly one fault, and never both.
pub record GrammarDecides : Type 0 where
  pub some : (tokens : List Token) → ((tree : Tree) × grammar.Accepts tokens tree) ⊎ ((fault : ExprFault) × grammar.Refuses tokens fault)
  pub one_tree : (tokens : List Token) (a b : Tree) → grammar.Accepts tokens a → grammar.Accepts tokens b → a ≡ b
  pub one_fault : (tokens : List Token) (a b : ExprFault) → grammar.Refuses tokens a → grammar.Refuses tokens b → a ≡ b
  pub never_both : (tokens : List Token) (tree : Tree) (fault : ExprFault) → grammar.Accepts tokens tree → grammar.Refuses tokens fault → ⊥

-- Bytes are accepted as exactly one input or refused with exactly one line and kind, and never both.
pub record IsDecided (bytes : Bytes) (shards : ℕ) : Type 0 where
  pub some : ((input : Input) × Accepts bytes shards input) ⊎ ((bad : BadInput) × Refuses bytes shards bad)
  pub one_input : (a b : Input) → Accepts bytes shards a → Accepts bytes shards b → a ≡ b
  pub one_refusal : (a b : BadInput) → Refuses bytes shards a → Refuses bytes shards b → a ≡ b
  pub never_both : (input : Input) (bad : BadInput) → Accepts bytes shards input → Refuses bytes shards bad → ⊥
