-- How deep an expression is at a token.
use Rattle.std.specs.Prelude.{◌≡◌, ◌⊎◌, ℕ, suc, ◌≤◌, List, [], ◌∷◌, ◌++◌, take}
use Rattle.query_grammar.specs.declared.token.Token.{Token}
use Rattle.query_grammar.specs.declared.token.Token.TheVariants as token
use Rattle.query_grammar.specs.Grammar.{Kind, Phrase, tokens_of}

-- a token that makes what follows deeper
abbrev pub IsOpener : Token → Type 0
IsOpener t = (t ≡ token.Left) ⊎ (t ≡ token.Bang)

-- the tokens begin with no whole fact
abbrev pub HasNoFact : List Token → Type 0
HasNoFact tokens = (p : Phrase Kind.fact) (more : List Token) → tokens_of p ++ more ≡ tokens → ⊥

-- The first of the tokens opens a bracket that they don't close, or negates a fact that they don't complete.
abbrev pub IsOpen : Token → List Token → Type 0
IsOpen t tokens = IsOpener t × HasNoFact (t ∷ tokens)

-- The depth behind the tokens: how many of them are open.
abbrev pub HasDepth : List Token → ℕ → Type 0
HasDepth [] n = n ≡ 0
HasDepth (t ∷ tokens) n =
    (IsOpen t tokens × ((m : ℕ) × (n ≡ suc m) × HasDepth tokens m)) ⊎ (¬ IsOpen t tokens × HasDepth tokens n)

-- nowhere in the tokens is the depth greater
abbrev pub IsWithinDepth : ℕ → List Token → Type 0
IsWithinDepth most tokens = (place depth : ℕ) → HasDepth (take place tokens) depth → depth ≤ most
