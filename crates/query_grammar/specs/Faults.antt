-- Which tokens are read, and which are refused with which fault.
use Rattle.std.specs.Prelude.{◌≡◌, ℕ, ◌+◌, ◌<◌, ◌≤◌, List, take, length}
use Rattle.query_grammar.specs.declared.token.Token.{Token}
use Rattle.query_grammar.specs.declared.fault.ExprFault.{ExprFault}
use Rattle.query_grammar.specs.declared.fault.ExprFault.TheVariants as fault
use Rattle.query_grammar.specs.Limits.{most_tokens, most_depth}
use Rattle.query_grammar.specs.Tree.{Tree}
use Rattle.query_grammar.specs.Grammar.{Reads, CanGoOn}
use Rattle.query_grammar.specs.Depth.{HasDepth, IsWithinDepth}

-- there are some tokens and not too many
abbrev pub AreSome : List Token → Type 0
AreSome tokens = (0 < length tokens) × (length tokens ≤ most_tokens)

-- The tokens are an expression with this tree, and within the limits.
pub record Accepts (tokens : List Token) (tree : Tree) : Type 0 where
  pub some : AreSome tokens
  pub shallow : IsWithinDepth most_depth tokens
  pub reads : Reads tokens tree

-- No fault stands at a place before this one: an expression could continue with the tokens before it, and they are nowhere too deep.
pub record IsFaultlessTo (tokens : List Token) (place : ℕ) : Type 0 where
  pub some : AreSome tokens
  pub goes_on : CanGoOn (take place tokens)
  pub shallow : IsWithinDepth most_depth (take place tokens)

-- the first fault of the tokens
abbrev pub Refuses : List Token → ExprFault → Type 0
Refuses tokens fault.Empty = length tokens ≡ 0
Refuses tokens fault.TooLong = most_tokens < length tokens
-- with the token at this place they would be too deep
Refuses tokens (fault.TooDeep place) =
    IsFaultlessTo tokens place × (place < length tokens) × HasDepth (take (place + 1) tokens) (most_depth + 1)
-- no expression could continue with the token at this place
Refuses tokens (fault.Unexpected place) =
    IsFaultlessTo tokens place × (place < length tokens) × ¬ CanGoOn (take (place + 1) tokens)
-- an expression could continue with all of them, and they are none
Refuses tokens fault.Unclosed = IsFaultlessTo tokens (length tokens) × ((tree : Tree) → ¬ Reads tokens tree)
-- want of memory is no fault of tokens
Refuses tokens fault.Memory = ⊥
