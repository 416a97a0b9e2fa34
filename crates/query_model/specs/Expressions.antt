-- The tokens of an expression's text, and what they give by the grammar.
use Rattle.std.specs.Prelude.{ℕ, ◌≡◌, List, [], ◌∷◌, Bool, ◌||◌, ◌==◌, map, codes, if◌then◌else◌, Result, Ok, Err}
use Rattle.std.specs.List.{list_all, flat_map}
use Rattle.fan_base.specs.Word.{is_word}
use Rattle.query_grammar.specs.declared.token.Token.{Token}
use Rattle.query_grammar.specs.declared.token.Token.TheVariants as token
use Rattle.query_grammar.specs.declared.fault.ExprFault.{ExprFault}
use Rattle.query_grammar.specs.declared.fault.ExprFault.TheVariants as expr
use Rattle.query_grammar.specs.Tree.{Tree}
use Rattle.query_grammar.specs.Faults as grammar
use Rattle.query_model.specs.declared.fault.BadKind.{BadKind}
use Rattle.query_model.specs.declared.fault.BadKind.TheVariants.{BadWord, BadExpr}
use Rattle.query_model.specs.declared.fault.BadKind.TheVariants as bad
use Rattle.query_model.specs.declared.fault.Limit.TheVariants as limit
use Rattle.query_model.specs.Results.{◌>>=◌, check}
use Rattle.query_model.specs.Pieces.{Bytes, space, fields, is_text}

-- the bytes that are tokens by themselves: `|`, `!`, `(` and `)`
abbrev pub is_sign : ℕ → Bool
is_sign b = b == 124 || (b == 33 || (b == 40 || b == 41))

abbrev pub apart : ℕ → Bytes
apart b = if is_sign b then space ∷ b ∷ space ∷ [] else b ∷ []

-- The texts of the tokens of a field: each sign stands apart, and what stands between signs is one token.
unfoldable pub parts : Bytes → List Bytes
parts field = fields (flat_map apart field)

-- the parts of all these fields
abbrev pub parts_of : List Bytes → List Bytes
parts_of texts = flat_map parts texts

abbrev pub is_sign_text : Bytes → Bool
is_sign_text part = is_text (codes "|") part || (is_text (codes "!") part || (is_text (codes "(") part || is_text (codes ")") part))

abbrev pub is_token : Bytes → Bool
is_token part = is_sign_text part || is_word part

abbrev pub token_of : Bytes → Token
token_of part =
    if is_text (codes "|") part then token.Bar
    else if is_text (codes "!") part then token.Bang
    else if is_text (codes "(") part then token.Left
    else if is_text (codes ")") part then token.Right
    else token.Word part

-- A part that is no token anywhere in the text is a bad word.
abbrev pub tokens_of : List Bytes → Result (List Token) BadKind
tokens_of texts = do
  each ← check (list_all is_token (parts_of texts)) BadWord
  Ok (map token_of (parts_of texts))

-- the kind of refusal of a line whose expression has this fault
abbrev pub kind_of : ExprFault → BadKind
kind_of expr.TooLong = bad.Limit limit.Tokens
kind_of (expr.TooDeep _) = bad.Limit limit.Depth
kind_of fault = BadExpr fault

-- what the tokens give by the grammar of expressions: a tree, or the kind of their first fault
abbrev pub GivesTree : List Token → Result Tree BadKind → Type 0
GivesTree tokens (Ok tree) = grammar.Accepts tokens tree
GivesTree tokens (Err kind) = (fault : ExprFault) × grammar.Refuses tokens fault × (kind ≡ kind_of fault)
