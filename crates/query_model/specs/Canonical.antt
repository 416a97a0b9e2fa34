-- The canonical text of an input.
use Rattle.std.specs.Prelude.{ℕ, List, [], ◌∷◌, ◌++◌, codes, Option, Some, None}
use Rattle.std.specs.Fmt.{decimal}
use Rattle.std.specs.List.{flat_map, join_with_byte}
use Rattle.query_grammar.specs.Tree.{Tree}
use Rattle.query_model.specs.Pieces.{Bytes, line_feed, space}
use Rattle.query_model.specs.declared.line.Ask.{Ask}
use Rattle.query_model.specs.declared.line.Ask.TheVariants as ask
use Rattle.query_model.specs.declared.line.Input.{Input}
use Rattle.query_model.specs.declared.line.Line.{Line}
use Rattle.query_model.specs.declared.line.Line.TheVariants as line
use Rattle.query_model.specs.declared.line.Prio.{Prio}
use Rattle.query_model.specs.declared.line.Prio.TheVariants as prio

abbrev pub in_brackets : Bytes → Bytes
in_brackets text = codes "(" ++ (text ++ codes ")")

-- the text of an expression where a fact has to stand: behind `!`, and on the right of a both
abbrev pub as_fact : Tree → Bytes → Bytes
as_fact (Tree.word w) text = text
as_fact (Tree.not e) text = text
as_fact (Tree.both a b) text = in_brackets text
as_fact (Tree.either a b) text = in_brackets text

-- where a both may stand too: on the left of a both, and on the right of an either
abbrev pub as_both : Tree → Bytes → Bytes
as_both (Tree.word w) text = text
as_both (Tree.not e) text = text
as_both (Tree.both a b) text = text
as_both (Tree.either a b) text = in_brackets text

-- the canonical text of an expression
abbrev pub expr_text : Tree → Bytes
expr_text (Tree.word w) = w
expr_text (Tree.not e) = codes "!" ++ as_fact e (expr_text e)
expr_text (Tree.both a b) = as_both a (expr_text a) ++ (codes " " ++ as_fact b (expr_text b))
expr_text (Tree.either a b) = expr_text a ++ (codes " | " ++ as_both b (expr_text b))

-- the fields of a query's delay and of its priority
abbrev pub delay_fields : Option ℕ → List Bytes
delay_fields None = []
delay_fields (Some delay) = codes "after" ∷ (decimal delay ∷ [])

abbrev pub prio_fields : Prio → List Bytes
prio_fields prio.Lo = codes "lo" ∷ []
prio_fields prio.Mid = []
prio_fields prio.Hi = codes "hi" ∷ []

-- the name of an ask and what it asks, which for an expression is its whole text
abbrev pub ask_fields : Ask → List Bytes
ask_fields (ask.Find e) = codes "find" ∷ (expr_text e ∷ [])
ask_fields (ask.Count e) = codes "count" ∷ (expr_text e ∷ [])
ask_fields (ask.Present e) = codes "exists" ∷ (expr_text e ∷ [])
ask_fields (ask.Top k words) = codes "top" ∷ (decimal k ∷ words)

abbrev pub line_fields : Line → List Bytes
line_fields (line.Doc doc) = codes "doc" ∷ (decimal doc.id ∷ doc.words)
line_fields (line.Query query) = delay_fields query.delay ++ (prio_fields query.prio ++ ask_fields query.ask)
line_fields (line.Tick n) = codes "tick" ∷ (decimal n ∷ [])
line_fields (line.Cancel n) = codes "cancel" ∷ (decimal n ∷ [])

-- the text of a line without its end
abbrev pub line_text : Line → Bytes
line_text l = join_with_byte space (line_fields l)

-- the canonical text of an input: one line for each, fields parted by one space
unfoldable pub canonical_text : Input → Bytes
canonical_text input = flat_map (λ l. line_text l ++ line_feed ∷ []) input.lines
