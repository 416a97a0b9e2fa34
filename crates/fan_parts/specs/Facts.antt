-- What the types of a run keep of the input that it is over.
use Rattle.std.specs.Prelude.{◌≡◌, ℕ, ◌-◌, ◌<◌, ◌≤◌, ◌^◌, List, true, Some, length, take, is_some}
use Rattle.std.specs.List.{slice_get}
use Rattle.fan_base.specs.declared.word.Word.{Word}
use Rattle.core_word.specs.declared.view.Sight.TheVariants as seen
use Rattle.query_model.specs.declared.line.Ask.{Ask}
use Rattle.query_model.specs.declared.line.Ask.TheVariants as ask
use Rattle.query_model.specs.declared.reply.Reply.{Reply}
use Rattle.query_model.specs.Answers.{answer}
use Rattle.query_model.specs.Documents.{docs_of}
use Rattle.query_model.specs.Order.{Asked, asked_in, docs_before}
use Rattle.query_model.specs.Parts.{part_before}
use Rattle.shard_index.specs.declared.shard.Shard.{Shard}
use Rattle.query_parts.specs.declared.part.PartAnswer.{PartAnswer}
use Rattle.query_parts.specs.declared.ranking.Ranking.{Ranking}
use Rattle.query_parts.specs.Merging.{ranking_of}
use Rattle.query_parts.specs.Parts.{AreShards, part_answer}
use Rattle.fan_model.specs.Answered.{is_top}
use Rattle.fan_model.specs.Laws.{tells}
use Rattle.fan_model.specs.Notes.{base_of}
use Rattle.fan_model.specs.Places.{IsReplyAt}
use Rattle.fan_model.specs.Report.{Asking}
use Rattle.fan_parts.specs.Seen.{EndSeen, CallbackSeen, ScoringSeen}

-- The numbers of a run within which its types count: 1 to 64 shards, 1 to 8 bases, fewer than 2^32 documents.
pub record IsCountable (asked : Asking) : Type 0 where
  pub some_shards : 0 < asked.shards
  pub few_shards : asked.shards ≤ 64
  pub some_bases : 0 < asked.bases
  pub few_bases : asked.bases ≤ 8
  pub few_documents : length (docs_of asked.lines) < 2 ^ 32

-- the query with this number asks this, and stands behind the first `before` documents
pub record IsAskOf (asked : Asking) (number : ℕ) (asks : Ask) (before : ℕ) : Type 0 where
  pub query : Asked
  pub at : slice_get (asked_in asked.lines) (number - 1) ≡ Some query
  pub number_is : query.number ≡ number
  pub asks_is : asks ≡ query.query.ask
  pub before_is : take before (docs_of asked.lines) ≡ docs_before asked.lines query
  pub within : before ≤ length (docs_of asked.lines)
  pub few : number ≤ 50000
  pub countable : IsCountable asked

-- what a shard gives for a query, over its documents before the query
pub record IsPartOf (asked : Asking) (number shard : ℕ) (content : PartAnswer) : Type 0 where
  pub asks : Ask
  pub before : ℕ
  pub is_ask : IsAskOf asked number asks before
  pub within : shard < asked.shards
  pub content_is : content ≡ part_answer asks (part_before (docs_of asked.lines) asked.shards shard before)

-- the answer of what a query asks is the reply at this place
abbrev pub IsAnswerAt : Asking → ℕ → ℕ → Ask → ℕ → Type 0
IsAnswerAt asked place number asks before = IsReplyAt asked.lines place number (answer asks (take before (docs_of asked.lines)))

-- the reply at this place, of the query with this number, and it is an answer
pub record IsPlacedAnswer (asked : Asking) (place number : ℕ) (reply : Reply) : Type 0 where
  pub at : IsReplyAt asked.lines place number reply
  pub is_answer : tells reply ≡ true

-- these are all shards of the run's documents, by number
pub record AreShardsOf (asked : Asking) (shards : List Shard) : Type 0 where
  pub are : AreShards shards (docs_of asked.lines)
  pub as_many : length shards ≡ asked.shards

-- the ranking that a `top` comes to over the documents before it
pub record IsRankingOf (asked : Asking) (asks : Ask) (before : ℕ) (ranking : Ranking) : Type 0 where
  pub k : ℕ
  pub words : List Word
  pub asks_is : asks ≡ ask.Top k words
  pub ranking_is : ranking ≡ ranking_of k words (take before (docs_of asked.lines))

-- The end of a query's desk: its reply is the one at its place, a callback waits for it and the consumer has left, and there is an inner key
-- exactly for `top`.
pub record IsEnd (asked : Asking) (end : EndSeen) : Type 0 where
  pub answer_at : IsAnswerAt asked end.place end.ask.number end.ask.asks end.ask.before
  pub awaited : end.reply.sight ≡ seen.CallbackLeft
  pub inner : is_top end.ask.asks ≡ is_some end.inner

-- The callback of the task of this query and this shard: the shard is one of the run's, and the executor is that of the base on which this query is gathered.
pub record IsTaskCallback (asked : Asking) (callback : CallbackSeen) : Type 0 where
  pub within : callback.shard < asked.shards
  pub few : callback.number ≤ 50000
  pub exec : callback.exec ≡ record { 0 = base_of asked.bases callback.number }
  pub countable : IsCountable asked

-- The scoring of a `top`: its reply is the one at its place, the ranking is that of what it asks, and a callback waits for the inner core's value and the
-- consumer has left.
pub record IsScoring (asked : Asking) (scoring : ScoringSeen) : Type 0 where
  pub answer_at : IsAnswerAt asked scoring.place scoring.ask.number scoring.ask.asks scoring.ask.before
  pub awaited : scoring.inner.sight ≡ seen.CallbackLeft
  pub ranking : IsRankingOf asked scoring.ask.asks scoring.ask.before scoring.ranking
