-- What is said of the grammar, of its faults and of an answer that was found by it.
use Rattle.std.specs.Prelude.{◌≡◌, ◌⊎◌, ℕ, ◌+◌, ◌<◌, ◌≤◌, List, ◌++◌, take, length, slice_get, Some, Result, Err}
use Rattle.query_grammar.specs.declared.token.Token.{Token}
use Rattle.query_grammar.specs.declared.fault.ExprFault.{ExprFault}
use Rattle.query_grammar.specs.declared.fault.ExprFault.TheVariants as fault
use Rattle.query_grammar.specs.Limits.{most_depth}
use Rattle.query_grammar.specs.Tree.{Tree}
use Rattle.query_grammar.specs.Grammar.{Reads}
use Rattle.query_grammar.specs.Depth.{IsOpener, IsWithinDepth}
use Rattle.query_grammar.specs.Faults.{AreSome, Accepts, Refuses}

-- the tokens are accepted, or refused with some fault
abbrev pub HasAnswer : List Token → Type 0
HasAnswer tokens = ((tree : Tree) × Accepts tokens tree) ⊎ ((f : ExprFault) × Refuses tokens f)

-- The token at this place is the first one with which nothing that follows makes an expression.
pub record IsFirstWithout (tokens : List Token) (place : ℕ) : Type 0 where
  pub within : place < length tokens
  pub none : (more : List Token) (tree : Tree) → ¬ Reads (take (place + 1) tokens ++ more) tree
  pub earlier : (n : ℕ) → n ≤ place → (more : List Token) × (tree : Tree) × Reads (take n tokens ++ more) tree

-- the same, in tokens that are neither none nor too many, nor too deep before it
abbrev pub IsUnexpected : List Token → ℕ → Type 0
IsUnexpected tokens place = AreSome tokens × IsWithinDepth most_depth (take place tokens) × IsFirstWithout tokens place

-- a Left or a Bang stands at the place
abbrev pub HasOpener : List Token → ℕ → Type 0
HasOpener tokens place = (t : Token) × (slice_get tokens place ≡ Some t) × IsOpener t

-- the answer, unless there was no memory for it
abbrev pub IsUnlessMemory : Result Tree ExprFault → Result Tree ExprFault → Type 0
IsUnlessMemory found answer = (found ≡ answer) ⊎ (found ≡ Err fault.Memory)
