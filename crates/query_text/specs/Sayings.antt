-- What the steps of reading a line give.
use Rattle.std.specs.Prelude.{◌≡◌, ℕ, List, [], ◌∷◌, ◌++◌, map, take, Result, Ok, Err}
use Rattle.std.specs.List.{list_all}
use Rattle.fan_base.specs.Word.{is_word}
use Rattle.fan_base.specs.declared.word.Word.{Word}
use Rattle.query_grammar.specs.Tree.{Tree}
use Rattle.query_grammar.specs.declared.token.Token.{Token}
use Rattle.query_model.specs.declared.line.Ask.{Ask}
use Rattle.query_model.specs.declared.fault.BadKind.{BadKind}
use Rattle.query_model.specs.declared.fault.BadKind.TheVariants.{BadWord}
use Rattle.query_model.specs.Results.{◌>>=◌, check}
use Rattle.query_model.specs.Pieces.{Bytes}
use Rattle.query_model.specs.Expressions.{is_token, token_of, tokens_of, GivesTree}
use Rattle.query_model.specs.Lines.{Asking, GivesAsk}

-- what the fields of an expression give: the tree of their tokens, or the first unmet check
abbrev pub GivesTreeBy : Result (List Token) BadKind → Result Tree BadKind → Type 0
GivesTreeBy (Err kind) given = given ≡ Err kind
GivesTreeBy (Ok tokens) given = GivesTree tokens given

-- what the fields of an ask give
abbrev pub GivesAskBy : Result Asking BadKind → Result Ask BadKind → Type 0
GivesAskBy (Err kind) given = given ≡ Err kind
GivesAskBy (Ok asking) given = GivesAsk asking given

abbrev pub word_in : Bytes → Result Word BadKind
word_in text = do
  good ← check (is_word text) BadWord
  Ok text

-- the text is a word, and stands behind the others
abbrev pub PutsWord : List Word → List Word → Bytes → Type 0
PutsWord old new text = (word_in text ≡ Ok text) × (new ≡ old ++ text ∷ [])

-- one part of an expression's text
abbrev pub token_in : Bytes → Result Token BadKind
token_in part = do
  good ← check (is_token part) BadWord
  Ok (token_of part)

-- the tokens of an expression that are kept: one more than it may have
abbrev pub most_kept : ℕ
most_kept = 1025

-- the first of the tokens of these parts, behind those taken before; all parts are checked
abbrev pub tokens_behind : List Token → List Bytes → Result (List Token) BadKind
tokens_behind taken parts = do
  each ← check (list_all is_token parts) BadWord
  Ok (take most_kept (taken ++ map token_of parts))

-- the first tokens of an expression's text
abbrev pub first_tokens : List Bytes → Result (List Token) BadKind
first_tokens texts = do
  tokens ← tokens_of texts
  Ok (take most_kept tokens)
