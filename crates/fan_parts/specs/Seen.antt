-- What contracts see of the types of a run.
use Rattle.std.specs.Prelude.{ℕ, Option}
use Rattle.fan_base.specs.declared.number.ExecId.{ExecId}
use Rattle.query_model.specs.declared.line.Ask.{Ask}
use Rattle.query_model.specs.declared.reply.Reply.{Reply}
use Rattle.core_word.specs.Seen.{SeenProducer, SeenKey}
use Rattle.notify_queue.specs.Ends.{Sending}
use Rattle.query_parts.specs.declared.part.PartAnswer.{PartAnswer}
use Rattle.query_parts.specs.declared.ranking.Ranking.{Ranking}

-- a query's number, what it asks, and how many documents stand before it
pub record AskSeen : Type 0 where
  pub number : ℕ
  pub asks : Ask
  pub before : ℕ

-- the part of a query and a shard
pub record PartSeen : Type 0 where
  pub number : ℕ
  pub shard : ℕ
  pub content : PartAnswer

-- a reply, its place in the order of answers, and the number of its query
pub record PlacedSeen : Type 0 where
  pub place : ℕ
  pub number : ℕ
  pub reply : Reply

-- the place and the number of a cancelled query, and the executor of the printer's base
pub record CancelledSeen : Type 0 where
  pub place : ℕ
  pub number : ℕ
  pub exec : ExecId

-- The end of a query's desk: the producer of its reply's core, the query, the place of its reply, and for `top` the key of the inner core.
pub record EndSeen : Type 0 where
  pub reply : SeenProducer
  pub ask : AskSeen
  pub place : ℕ
  pub inner : Option SeenKey

-- The callback of a task's core: its query's number and its shard, and the executor of the query's base.
pub record CallbackSeen : Type 0 where
  pub number : ℕ
  pub shard : ℕ
  pub exec : ExecId

-- The scoring of a query: the producer of its inner core, the query, the place of its reply, and its ranking.
pub record ScoringSeen : Type 0 where
  pub inner : SeenProducer
  pub ask : AskSeen
  pub place : ℕ
  pub ranking : Ranking

-- what was put to a base, and the executor that all of it has
pub record PosterSeen (J : Type 0) : Type 0 where
  pub sender : Sending J
  pub exec : ExecId
