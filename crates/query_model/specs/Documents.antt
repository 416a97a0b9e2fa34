-- The documents and the queries of an input, and what an accepted input has.
use Rattle.std.specs.Prelude.{ℕ, ◌≡◌, ◌==◌, ◌*◌, ◌≤◌, ◌<◌, List, false, All, take, length, slice_get, Option, Some, None, IfSome}
use Rattle.std.specs.List.{AllPass, filter_map, list_any, sum_by}
use Rattle.fan_base.specs.Word.{is_word}
use Rattle.fan_base.specs.declared.doc.Doc.{Doc}
use Rattle.fan_base.specs.declared.word.Word.{Word}
use Rattle.query_model.specs.declared.line.Ask.{Ask}
use Rattle.query_model.specs.declared.line.Ask.TheVariants as ask
use Rattle.query_model.specs.declared.line.Line.{Line}
use Rattle.query_model.specs.declared.line.Line.TheVariants as line
use Rattle.query_model.specs.declared.line.Query.{Query}
use Rattle.query_model.specs.Limits.{most_words, most_documents, most_queries, most_tasks, most_ticks, most_delay, most_id, most_ranked}
use Rattle.query_model.specs.Lines.{ticks_of}

abbrev pub doc_of_line : Line → Option Doc
doc_of_line (line.Doc doc) = Some doc
doc_of_line (line.Query _) = None
doc_of_line (line.Tick _) = None
doc_of_line (line.Cancel _) = None

-- the documents in the order of their lines
abbrev pub docs_of : List Line → List Doc
docs_of lines = filter_map doc_of_line lines

abbrev pub query_of_line : Line → Option Query
query_of_line (line.Doc _) = None
query_of_line (line.Query query) = Some query
query_of_line (line.Tick _) = None
query_of_line (line.Cancel _) = None

-- the queries in the order of their lines
abbrev pub queries_of : List Line → List Query
queries_of lines = filter_map query_of_line lines

-- no document has the id of one before it
abbrev pub DifferentIds : List Doc → Type 0
DifferentIds docs = (place : ℕ) (doc : Doc) → slice_get docs place ≡ Some doc → list_any (λ other. other.id == doc.id) (take place docs) ≡ false

-- at most 1,000 words
pub record AreWords (words : List Word) : Type 0 where
  pub few : length words ≤ most_words
  pub each : AllPass is_word words

pub record IsDocument (doc : Doc) : Type 0 where
  pub id : doc.id ≤ most_id
  pub are_words : AreWords doc.words

-- the words of a `top` are some, and it lists 1 to 100 documents
pub record IsRanking (k : ℕ) (words : List Word) : Type 0 where
  pub some : 1 ≤ k
  pub few : k ≤ most_ranked
  pub some_words : 0 < length words
  pub are_words : AreWords words

abbrev pub IsAsk : Ask → Type 0
IsAsk (ask.Find _) = Unit {0}
IsAsk (ask.Count _) = Unit {0}
IsAsk (ask.Present _) = Unit {0}
IsAsk (ask.Top k words) = IsRanking k words

pub record IsQuery (query : Query) : Type 0 where
  pub delay : IfSome query.delay (λ d. (1 ≤ d) × (d ≤ most_delay))
  pub ask : IsAsk query.ask

-- the number of a line lies in its range
abbrev pub IsLine : Line → Type 0
IsLine (line.Doc doc) = IsDocument doc
IsLine (line.Query query) = IsQuery query
IsLine (line.Tick n) = (1 ≤ n) × (n ≤ most_ticks)
IsLine (line.Cancel n) = (1 ≤ n) × (n ≤ most_queries)

-- What an accepted input has, of which nothing speaks of bytes.
pub record IsWithinLimits (lines : List Line) (shards : ℕ) : Type 0 where
  pub lines_are : All IsLine lines
  pub ids : DifferentIds (docs_of lines)
  pub few_documents : length (docs_of lines) ≤ most_documents
  pub few_queries : length (queries_of lines) ≤ most_queries
  pub few_tasks : length (queries_of lines) * shards ≤ most_tasks
  pub few_ticks : sum_by ticks_of lines ≤ most_ticks
