-- The answer of a query over documents.
use Rattle.std.specs.Prelude.{ℕ, List, [], ◌∷◌, Bool, ◌&&◌, ◌||◌, ◌==◌, ◌*◌, ◌/◌, length, map, filter, take, nat_lt, if◌then◌else◌}
use Rattle.std.specs.List.{count_by, sum_by, list_any}
use Rattle.fan_base.specs.declared.doc.Doc.{Doc}
use Rattle.fan_base.specs.declared.word.Word.{Word}
use Rattle.query_grammar.specs.Tree.{Tree}
use Rattle.query_grammar.specs.Truth.{is_true, is_among}
use Rattle.query_model.specs.Pieces.{is_text}
use Rattle.query_model.specs.declared.line.Ask.{Ask}
use Rattle.query_model.specs.declared.line.Ask.TheVariants as ask
use Rattle.query_model.specs.declared.reply.Hits.{Hits}
use Rattle.query_model.specs.declared.reply.Reply.{Reply}
use Rattle.query_model.specs.declared.reply.Reply.TheVariants as reply
use Rattle.query_model.specs.Limits.{most_listed}
use Rattle.query_model.specs.Sorting.{sorted_by}

-- the documents for which the expression holds
abbrev pub holding : Tree → List Doc → List Doc
holding e docs = filter (λ doc. is_true e doc.words) docs

-- the ids of documents, ascending
abbrev pub ids_of : List Doc → List ℕ
ids_of docs = sorted_by nat_lt (map (λ doc. doc.id) docs)

-- the first 100 of these ids, and the number of those documents
unfoldable pub hits_of : Tree → List Doc → Hits
hits_of e docs = record { ids = take most_listed (ids_of (holding e docs)); total = length (holding e docs) }

-- the documents that have the word
abbrev pub having : Word → List Doc → List Doc
having word docs = filter (λ doc. is_among word doc.words) docs

-- how often the word stands in the document
abbrev pub times_in : Doc → Word → ℕ
times_in doc word = count_by (is_text word) doc.words

-- the number of documents by the number of those with the word, rounded down; 0 where none has it
abbrev pub weight_of : List Doc → Word → ℕ
weight_of docs word = if length (having word docs) == 0 then 0 else length docs / length (having word docs)

-- the words, each once
abbrev pub each_once : List Word → List Word
each_once [] = []
each_once (word ∷ words) = if is_among word words then each_once words else word ∷ each_once words

-- how often the words stand in a document, each time counted by the word's weight among the documents
abbrev pub score_of : List Word → List Doc → Doc → ℕ
score_of words docs doc = sum_by (λ word. times_in doc word * weight_of docs word) words

-- the greater score first, then the smaller id
abbrev pub ranks_before : ℕ × ℕ → ℕ × ℕ → Bool
ranks_before a b = nat_lt b.1 a.1 || (a.1 == b.1 && nat_lt a.0 b.0)

-- the ids of documents with their scores, the scores that aren't 0 alone, in the order of ranks
abbrev pub ranked : List (ℕ × ℕ) → List (ℕ × ℕ)
ranked scores = sorted_by ranks_before (filter (λ pair. nat_lt 0 pair.1) scores)

-- the first `k` documents for these words, with their scores
unfoldable pub top_of : ℕ → List Word → List Doc → List (ℕ × ℕ)
top_of k words docs = take k (ranked (map (λ doc. (doc.id, score_of (each_once words) docs doc)) docs))

abbrev pub answer : Ask → List Doc → Reply
answer (ask.Find e) docs = reply.Find (hits_of e docs)
answer (ask.Count e) docs = reply.Count (length (holding e docs))
answer (ask.Present e) docs = reply.Present (nat_lt 0 (length (holding e docs)))
answer (ask.Top k words) docs = reply.Top (top_of k words docs)

-- whether a document holds for what is asked, or has one of the words
abbrev pub holds_for : Ask → Doc → Bool
holds_for (ask.Find e) doc = is_true e doc.words
holds_for (ask.Count e) doc = is_true e doc.words
holds_for (ask.Present e) doc = is_true e doc.words
holds_for (ask.Top k words) doc = list_any (λ word. is_among word doc.words) words
