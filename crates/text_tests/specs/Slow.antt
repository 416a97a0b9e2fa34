-- What the plain, slow program finds.
use Rattle.std.specs.Prelude.{◌≡◌, ◌≢◌, ℕ, zero, suc, ◌∷◌, ◌++◌, List, [], take, drop, Option, Some, None}
use Rattle.fan_base.specs.declared.word.Word.{Word}
use Rattle.query_grammar.specs.declared.token.Token.{Token}
use Rattle.query_grammar.specs.declared.token.Token.TheVariants as token
use Rattle.query_grammar.specs.Tree.{Tree}
use Rattle.query_grammar.specs.Grammar.{Kind, Phrase, tokens_of, tree_of}

-- the tree of a phrase of this kind with these tokens, or none where there is no such phrase
abbrev pub Finds : Kind → List Token → Option Tree → Type 0
Finds kind tokens None = (p : Phrase kind) → tokens_of p ≢ tokens
Finds kind tokens (Some tree) = (p : Phrase kind) × (tokens_of p ≡ tokens) × (tree_of p ≡ tree)

-- the same of some facts that end at this place and one that begins there
abbrev pub FindsBeside : ℕ → List Token → Option Tree → Type 0
FindsBeside place tokens None =
    (b : Phrase Kind.both) (f : Phrase Kind.fact) → tokens_of b ≡ take place tokens → tokens_of f ≡ drop place tokens → ⊥
FindsBeside place tokens (Some tree) =
    (b : Phrase Kind.both) × (f : Phrase Kind.fact) × (tokens_of b ≡ take place tokens) × (tokens_of f ≡ drop place tokens)
    × (Tree.both (tree_of b) (tree_of f) ≡ tree)

-- the same of an expression and facts, with a bar at this place
abbrev pub FindsBar : ℕ → List Token → Option Tree → Type 0
FindsBar place tokens None =
    (e : Phrase Kind.either) (b : Phrase Kind.both) → tokens_of e ≡ take place tokens → token.Bar ∷ tokens_of b ≡ drop place tokens → ⊥
FindsBar place tokens (Some tree) =
    (e : Phrase Kind.either) × (b : Phrase Kind.both) × (tokens_of e ≡ take place tokens) × (token.Bar ∷ tokens_of b ≡ drop place tokens)
    × (Tree.either (tree_of e) (tree_of b) ≡ tree)

-- so many closing brackets
abbrev pub rights : ℕ → List Token
rights zero = []
rights (suc n) = token.Right ∷ rights n

-- the tokens, a word, and so many closing brackets
abbrev pub closed : List Token → Word → ℕ → List Token
closed tokens w n = tokens ++ (token.Word w ∷ rights n)
