-- The lines of an input by their facts, which stand in no order.
use Rattle.std.specs.Prelude.{ℕ, ◌≡◌, ◌⊎◌, ◌+◌, ◌*◌, ◌≤◌, ◌<◌, List, [], ◌∷◌, ◌++◌, true, false, codes, length, map, Option, None, Some, Ok}
use Rattle.std.specs.List.{list_all, list_any, count_by, sum_by}
use Rattle.std.specs.Char.{to_ascii_lowercase}
use Rattle.std.specs.Str.Lines.{strip_carriage_return}
use Rattle.fan_base.specs.declared.doc.Doc.{Doc}
use Rattle.query_grammar.specs.declared.token.Token.{Token}
use Rattle.query_grammar.specs.Tree.{Tree}
use Rattle.query_grammar.specs.Faults as grammar
use Rattle.query_model.specs.Pieces.{Bytes, fields, is_printable, is_skipped}
use Rattle.query_model.specs.declared.line.Line.{Line}
use Rattle.query_model.specs.declared.line.Query.{Query}
use Rattle.query_model.specs.declared.line.Prio.{Prio}
use Rattle.query_model.specs.declared.line.Prio.TheVariants as prio
use Rattle.query_model.specs.declared.line.Ask.{Ask}
use Rattle.query_model.specs.declared.line.Ask.TheVariants as ask
use Rattle.query_model.specs.Limits.{most_documents, most_queries, most_tasks, most_ticks, most_delay, most_id}
use Rattle.query_model.specs.Numbers.{is_number, number_of}
use Rattle.query_model.specs.Expressions.{tokens_of}
use Rattle.query_model.specs.Lines.{is_query, is_doc, ticks_of, has_id}
use Rattle.query_model.specs.Documents.{AreWords}

-- the piece is a comment, or has nothing but spaces
abbrev pub IsSkipped : Bytes → Type 0
IsSkipped piece = is_skipped (strip_carriage_return piece) ≡ true

-- the piece is a line of printable ASCII that isn't skipped
pub record IsRead (piece : Bytes) : Type 0 where
  pub not_skipped : is_skipped (strip_carriage_return piece) ≡ false
  pub printable : list_all is_printable (strip_carriage_return piece) ≡ true

-- the fields of a piece, with capitals as small letters
abbrev pub fields_of : Bytes → List Bytes
fields_of piece = fields (map to_ascii_lowercase (strip_carriage_return piece))

-- the field writes this number, which lies in the range
pub record IsNumber (low high : ℕ) (field : Bytes) (n : ℕ) : Type 0 where
  pub digits : is_number field ≡ true
  pub value : number_of field ≡ n
  pub above : low ≤ n
  pub below : n ≤ high

-- The piece is the line of this document, and there is room for it behind these lines.
pub record IsDocLine (before : List Line) (piece : Bytes) (doc : Doc) : Type 0 where
  pub read : IsRead piece
  -- `doc`, an id and the words
  pub id : Bytes
  pub fields_are : fields_of piece ≡ codes "doc" ∷ id ∷ doc.words
  pub number : IsNumber 0 most_id id doc.id
  pub words : AreWords doc.words
  -- none of the documents before has its id, and there are fewer than 200,000
  pub own : list_any (has_id doc.id) before ≡ false
  pub room : count_by is_doc before < most_documents

-- The piece is the line of so many ticks, with which there are at most 10,000,000 behind these lines.
pub record IsTickLine (before : List Line) (piece : Bytes) (n : ℕ) : Type 0 where
  pub read : IsRead piece
  pub field : Bytes
  pub fields_are : fields_of piece ≡ codes "tick" ∷ field ∷ []
  pub number : IsNumber 1 most_ticks field n
  pub room : sum_by ticks_of before + n ≤ most_ticks

-- The piece is the line that cancels the query with this number.
pub record IsCancelLine (piece : Bytes) (n : ℕ) : Type 0 where
  pub read : IsRead piece
  pub field : Bytes
  pub fields_are : fields_of piece ≡ codes "cancel" ∷ field ∷ []
  pub number : IsNumber 1 most_queries field n

-- the fields of a delay: `after` and a number, or none
abbrev pub IsDelay : List Bytes → Option ℕ → Type 0
IsDelay delay None = delay ≡ []
IsDelay delay (Some d) = (field : Bytes) × (delay ≡ codes "after" ∷ field ∷ []) × IsNumber 1 most_delay field d

-- how a priority is written
abbrev pub prio_name : Prio → Bytes
prio_name prio.Lo = codes "lo"
prio_name prio.Mid = codes "mid"
prio_name prio.Hi = codes "hi"

-- the fields of a priority: its name, or none for `mid`
abbrev pub IsPrio : List Bytes → Prio → Type 0
IsPrio names p = (names ≡ prio_name p ∷ []) ⊎ ((names ≡ []) × (p ≡ prio.Mid))

-- a name, and the text of an expression that the grammar accepts
pub record IsExpr (name : Bytes) (asks : List Bytes) (tree : Tree) : Type 0 where
  pub texts : List Bytes
  pub asks_are : asks ≡ name ∷ texts
  pub tokens : List Token
  pub tokens_are : tokens_of texts ≡ Ok tokens
  pub expr : grammar.Accepts tokens tree

-- `top`, a number and the words
pub record IsTop (asks : List Bytes) (k : ℕ) (words : List Bytes) : Type 0 where
  pub field : Bytes
  pub asks_are : asks ≡ codes "top" ∷ field ∷ words
  pub number : IsNumber 1 100 field k
  pub some : 0 < length words
  pub are_words : AreWords words

-- the fields of an ask
abbrev pub IsAskOf : List Bytes → Ask → Type 0
IsAskOf asks (ask.Find tree) = IsExpr (codes "find") asks tree
IsAskOf asks (ask.Count tree) = IsExpr (codes "count") asks tree
IsAskOf asks (ask.Present tree) = IsExpr (codes "exists") asks tree
IsAskOf asks (ask.Top k words) = IsTop asks k words

-- The piece is the line of this query, and there is room for it behind these lines, over so many shards.
pub record IsQueryLine (shards : ℕ) (before : List Line) (piece : Bytes) (query : Query) : Type 0 where
  pub read : IsRead piece
  -- a delay or none, a priority or none, and the ask
  pub delay : List Bytes
  pub names : List Bytes
  pub asks : List Bytes
  pub fields_are : fields_of piece ≡ delay ++ (names ++ asks)
  pub delay_is : IsDelay delay query.delay
  pub prio_is : IsPrio names query.prio
  pub ask_is : IsAskOf asks query.ask
  -- there are fewer than 50,000 queries before it, and with it at most 262,144 tasks
  pub room : count_by is_query before < most_queries
  pub tasks : (count_by is_query before + 1) * shards ≤ most_tasks
