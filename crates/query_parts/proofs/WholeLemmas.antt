-- What is merged, read backwards.
use Rattle.std.proofs.Common.{◌≡◌, ℕ, List, length, refl, arith}
use Rattle.fan_base.specs.declared.doc.Doc.{Doc}
use Rattle.fan_base.specs.declared.word.Word.{Word}
use Rattle.query_model.specs.declared.line.Ask.{Ask}
use Rattle.query_model.specs.declared.line.Ask.TheVariants as ask
use Rattle.query_model.specs.declared.reply.Reply.{Reply}
use Rattle.query_model.specs.Answers.{answer}
use Rattle.query_model.specs.Parts.{part_before}
use Rattle.shard_index.specs.declared.shard.Shard.{Shard}
use Rattle.shard_index.specs.Parts.{by_shard}
use Rattle.query_parts.specs.declared.merge.Merged.TheVariants as merged
use Rattle.query_parts.specs.declared.part.PartAnswer.{PartAnswer}
use Rattle.query_parts.specs.declared.ranking.Ranking.{Ranking}
use Rattle.query_parts.specs.Parts.{AreParts, part_answer}
use Rattle.query_parts.specs.Merging.{AreAskedOf, merged_of, ranking_of}

-- where the reply is merged, it is the answer
pub reply-is : (asks : Ask) (docs : List Doc) (reply : Reply) → merged.Reply reply ≡ merged_of asks docs → reply ≡ answer asks docs
reply-is (ask.Find e) docs reply is = cc
reply-is (ask.Count e) docs reply is = cc
reply-is (ask.Present e) docs reply is = cc
reply-is (ask.Top k words) docs reply is = absurd cc

-- where a ranking is merged, it is that of a `top`
pub record Ranked (asks : Ask) (docs : List Doc) (ranking : Ranking) : Type 0 where
  pub k : ℕ
  pub words : List Word
  pub asks_are : asks ≡ ask.Top k words
  pub ranking_is : ranking ≡ ranking_of k words docs

pub ranking-is : (asks : Ask) (docs : List Doc) (ranking : Ranking) → merged.Ranking ranking ≡ merged_of asks docs → Ranked asks docs ranking
ranking-is (ask.Find e) docs ranking is = absurd cc
ranking-is (ask.Count e) docs ranking is = absurd cc
ranking-is (ask.Present e) docs ranking is = absurd cc
ranking-is (ask.Top k words) docs ranking is = record { k = k; words = words; asks_are = refl; ranking_is = cc }

pub parts-are : (asks : Ask) (shards : List Shard) (docs : List Doc) (before : ℕ) (parts : List PartAnswer) → AreAskedOf shards docs before
    → parts ≡ by_shard (λ n. part_answer asks (part_before docs (length shards) n before)) (length shards) → AreParts asks docs (length shards) before parts
parts-are asks shards docs before parts asked are = record { some = asked.are.some; few = asked.are.few; within = asked.within; parts_are = are }
