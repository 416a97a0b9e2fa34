-- What a piece says, behind the lines before it: the checks of a line, in their order.
use Rattle.std.specs.Prelude.{ℕ, ◌≡◌, ◌+◌, ◌*◌, List, [], ◌∷◌, Bool, true, false, not, nat_lt, nat_le, ◌==◌, length, map, take, if◌then◌else◌, None, Some, Option, Result, Ok, Err}
use Rattle.std.specs.List.{list_all, list_any, count_by, sum_by}
use Rattle.std.specs.Char.{to_ascii_lowercase}
use Rattle.std.specs.Str.Lines.{strip_carriage_return}
use Rattle.fan_base.specs.Word.{is_word}
use Rattle.fan_base.specs.declared.word.Word.{Word}
use Rattle.fan_base.specs.declared.doc.Doc.{Doc}
use Rattle.query_grammar.specs.declared.token.Token.{Token}
use Rattle.query_grammar.specs.Tree.{Tree}
use Rattle.query_model.specs.Results.{◌>>=◌, check, first_of}
use Rattle.query_model.specs.Pieces.{Bytes, fields, is_printable, is_skipped}
use Rattle.query_model.specs.declared.line.Line.{Line}
use Rattle.query_model.specs.declared.line.Line.TheVariants as line
use Rattle.query_model.specs.declared.line.Prio.{Prio}
use Rattle.query_model.specs.declared.line.Prio.TheVariants as prio
use Rattle.query_model.specs.declared.line.Ask.{Ask}
use Rattle.query_model.specs.declared.line.Ask.TheVariants as ask
use Rattle.query_model.specs.declared.keyword.Keyword.{Keyword}
use Rattle.query_model.specs.declared.keyword.Keyword.TheVariants as word
use Rattle.query_model.specs.declared.keyword.ExprAsk.{ExprAsk}
use Rattle.query_model.specs.declared.keyword.ExprAsk.TheVariants as expr
use Rattle.query_model.specs.declared.fault.BadKind.{BadKind}
use Rattle.query_model.specs.declared.fault.BadKind.TheVariants.{BadByte, UnknownCommand, BadWord, DuplicateDoc, MissingField, ExtraField}
use Rattle.query_model.specs.declared.fault.BadKind.TheVariants as bad
use Rattle.query_model.specs.declared.fault.Limit.TheVariants as limit
use Rattle.query_model.specs.Limits.{most_words, most_documents, most_queries, most_tasks, most_ticks, most_delay, most_id, most_ranked}
use Rattle.query_model.specs.Numbers.{number_field}
use Rattle.query_model.specs.Keywords.{keyword_of}
use Rattle.query_model.specs.Expressions.{tokens_of, GivesTree}

-- of which kind a line is
abbrev pub is_doc : Line → Bool
is_doc (line.Doc _) = true
is_doc (line.Query _) = false
is_doc (line.Tick _) = false
is_doc (line.Cancel _) = false

abbrev pub is_query : Line → Bool
is_query (line.Doc _) = false
is_query (line.Query _) = true
is_query (line.Tick _) = false
is_query (line.Cancel _) = false

-- the ticks of a line
abbrev pub ticks_of : Line → ℕ
ticks_of (line.Doc _) = 0
ticks_of (line.Query _) = 0
ticks_of (line.Tick n) = n
ticks_of (line.Cancel _) = 0

-- whether a line is the document with this id
abbrev pub has_id : ℕ → Line → Bool
has_id id (line.Doc doc) = doc.id == id
has_id id (line.Query _) = false
has_id id (line.Tick _) = false
has_id id (line.Cancel _) = false

-- The words of a document or of a `top`, from the left. The 1,001st is too many, be it a word or not.
abbrev pub words_of : List Bytes → Result (List Word) BadKind
words_of texts = do
  each ← check (list_all is_word (take most_words texts)) BadWord
  few ← check (nat_le (length texts) most_words) (bad.Limit limit.Words)
  Ok texts

-- the one number of a line, which lies in a range; nothing stands behind it
abbrev pub number_alone : ℕ → ℕ → List Bytes → Result ℕ BadKind
number_alone low high others = do
  first ← first_of others MissingField
  n ← number_field low high first.0
  alone ← check (nat_le (length first.1) 0) ExtraField
  Ok n

-- whether there is room for a document with this id: it has an id of its own, and is one of at most 200,000
abbrev pub doc_room : List Line → ℕ → Result (Unit {0}) BadKind
doc_room before id = do
  own ← check (not (list_any (has_id id) before)) DuplicateDoc
  check (nat_lt (count_by is_doc before) most_documents) (bad.Limit limit.Documents)

-- behind `doc`: an id, and the words
abbrev pub doc_behind : List Line → List Bytes → Result Doc BadKind
doc_behind before others = do
  id ← first_of others MissingField
  n ← number_field 0 most_id id.0
  words ← words_of id.1
  room ← doc_room before n
  Ok (record { id = n; words = words })

-- behind `tick`: so many ticks, with which there are at most 10,000,000
abbrev pub tick_behind : List Line → List Bytes → Result ℕ BadKind
tick_behind before others = do
  n ← number_alone 1 most_ticks others
  room ← check (nat_le (sum_by ticks_of before + n) most_ticks) (bad.Limit limit.Ticks)
  Ok n

-- behind `cancel`: the number of a query
abbrev pub cancel_behind : List Bytes → Result ℕ BadKind
cancel_behind others = number_alone 1 most_queries others

-- what a query asks, before its expression is read
pub data Asking : Type 0 where
  of_tokens : ExprAsk → List Token → Asking
  top : ℕ → List Word → Asking

-- what a line says before the expression of its query is read
pub data Said : Type 0 where
  nothing : Said
  doc : Doc → Said
  tick : ℕ → Said
  cancel : ℕ → Said
  query : Option ℕ → Prio → Asking → Said

-- the text of an expression
abbrev pub expr_behind : ExprAsk → List Bytes → Result Asking BadKind
expr_behind asks texts = do
  tokens ← tokens_of texts
  Ok (Asking.of_tokens asks tokens)

-- behind `top`: how many at most, and one or more words
abbrev pub top_behind : List Bytes → Result Asking BadKind
top_behind others = do
  k ← first_of others MissingField
  n ← number_field 1 most_ranked k.0
  some ← check (nat_lt 0 (length k.1)) MissingField
  words ← words_of k.1
  Ok (Asking.top n words)

-- an ask, and what stands behind it
abbrev pub ask_behind : Option Keyword → List Bytes → Result Asking BadKind
ask_behind (Some word.Find) texts = expr_behind expr.Find texts
ask_behind (Some word.Count) texts = expr_behind expr.Count texts
ask_behind (Some word.Exists) texts = expr_behind expr.Present texts
ask_behind (Some word.Top) texts = top_behind texts
ask_behind _ texts = Err UnknownCommand

-- a query with this delay and priority, from its ask on
abbrev pub query_with : Option ℕ → Prio → Option Keyword → List Bytes → Result Said BadKind
query_with delay prio name texts = do
  asks ← ask_behind name texts
  Ok (Said.query delay prio asks)

-- behind a priority word: the ask
abbrev pub prio_behind : Option ℕ → Prio → List Bytes → Result Said BadKind
prio_behind delay prio others = do
  next ← first_of others MissingField
  query_with delay prio (keyword_of next.0) next.1

-- a query with this delay, from its priority word on, if it has one
abbrev pub query_from : Option ℕ → Option Keyword → List Bytes → Result Said BadKind
query_from delay (Some word.Lo) others = prio_behind delay prio.Lo others
query_from delay (Some word.Mid) others = prio_behind delay prio.Mid others
query_from delay (Some word.Hi) others = prio_behind delay prio.Hi others
query_from delay name others = query_with delay prio.Mid name others

-- behind `after`: the delay, and the rest of the query
abbrev pub after_behind : List Bytes → Result Said BadKind
after_behind others = do
  d ← first_of others MissingField
  delay ← number_field 1 most_delay d.0
  next ← first_of d.1 MissingField
  query_from (Some delay) (keyword_of next.0) next.1

-- a line that begins with this keyword, and the fields behind it
abbrev pub said_by : List Line → Option Keyword → List Bytes → Result Said BadKind
said_by before (Some word.Doc) others = doc_behind before others >>= λ doc. Ok (Said.doc doc)
said_by before (Some word.Tick) others = tick_behind before others >>= λ n. Ok (Said.tick n)
said_by before (Some word.Cancel) others = cancel_behind others >>= λ n. Ok (Said.cancel n)
said_by before (Some word.After) others = after_behind others
said_by before name others = query_from None name others

-- (A line that isn't skipped has a field.)
abbrev pub fields_behind : List Line → List Bytes → Result Said BadKind
fields_behind before [] = Err UnknownCommand
fields_behind before (name ∷ others) = said_by before (keyword_of name) others

-- a line that isn't skipped; its capitals are read as small letters
abbrev pub line_said : List Line → Bytes → Result Said BadKind
line_said before text = do
  printable ← check (list_all is_printable text) BadByte
  fields_behind before (fields (map to_ascii_lowercase text))

-- What a piece says behind these lines. One carriage return at its end is taken off.
unfoldable pub said_behind : List Line → Bytes → Result Said BadKind
said_behind before piece =
    let text = strip_carriage_return piece in
    if is_skipped text then Ok Said.nothing else line_said before text

-- what is asked of an expression
abbrev pub ask_of : ExprAsk → Tree → Ask
ask_of expr.Find tree = ask.Find tree
ask_of expr.Count tree = ask.Count tree
ask_of expr.Present tree = ask.Present tree

-- what a query asks, once its expression is read by the grammar of expressions
abbrev pub GivesAsk : Asking → Result Ask BadKind → Type 0
GivesAsk (Asking.of_tokens asks tokens) (Ok given) = (tree : Tree) × GivesTree tokens (Ok tree) × (given ≡ ask_of asks tree)
GivesAsk (Asking.of_tokens asks tokens) (Err kind) = GivesTree tokens (Err kind)
GivesAsk (Asking.top k words) given = given ≡ Ok (ask.Top k words)

-- whether there is room for a query: it is one of at most 50,000, and the queries up to it times the shards are at most 262,144
abbrev pub query_room : ℕ → List Line → Result (Unit {0}) BadKind
query_room shards before = do
  few ← check (nat_lt (count_by is_query before) most_queries) (bad.Limit limit.Queries)
  check (nat_le ((count_by is_query before + 1) * shards) most_tasks) (bad.Limit limit.Tasks)

-- a query behind these lines, once its expression is read
abbrev pub query_behind : ℕ → List Line → Option ℕ → Prio → Result Ask BadKind → Result (Option Line) BadKind
query_behind shards before delay prio asks = do
  ask ← asks
  room ← query_room shards before
  Ok (Some (line.Query (record { delay = delay; prio = prio; ask = ask })))

-- what a line gives by what it says: a line of the input or none, or the first unmet check
abbrev pub GivesLine : ℕ → List Line → Result Said BadKind → Result (Option Line) BadKind → Type 0
GivesLine shards before (Err kind) given = given ≡ Err kind
GivesLine shards before (Ok Said.nothing) given = given ≡ Ok None
GivesLine shards before (Ok (Said.doc d)) given = given ≡ Ok (Some (line.Doc d))
GivesLine shards before (Ok (Said.tick n)) given = given ≡ Ok (Some (line.Tick n))
GivesLine shards before (Ok (Said.cancel n)) given = given ≡ Ok (Some (line.Cancel n))
GivesLine shards before (Ok (Said.query delay prio asking)) given =
    (asks : Result Ask BadKind) × GivesAsk asking asks × (given ≡ query_behind shards before delay prio asks)

-- what a piece gives behind these lines
abbrev pub LineBehind : ℕ → List Line → Bytes → Result (Option Line) BadKind → Type 0
LineBehind shards before piece given = GivesLine shards before (said_behind before piece) given
