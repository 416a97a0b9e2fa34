use Rattle.std.proofs.Common.{length, take, ap, sym, ◌∙◌}
use Rattle.std.proofs.lemmas.Result.{IfOk-weaker}
use Rattle.query_model.specs.Answers.{answer}
use Rattle.query_parts.proofs.WholeLemmas.{parts-are, ranking-is, reply-is}
use Rattle.query_parts.proofs.whole.answer_by_parts.Goals as goal

pub merge_parts-requires : goal.merge_parts-requires
merge_parts-requires c =
    let asked = c.requires.asked in
    record {
      docs = c.requires.docs;
      shards = length c.args.shards.now;
      are = parts-are c.args.ask.now c.args.shards.now c.requires.docs c.args.before c.in_ok-parts.parts.items asked (c.in_ok-parts.ensures c.requires.docs asked.are);
    }

pub answer-requires : goal.answer-requires
answer-requires c =
    let docs = c.requires.docs in
    let asked = c.requires.asked in
    let parts = parts-are c.args.ask.now c.args.shards.now docs c.args.before c.in_ok-parts.parts.items asked (c.in_ok-parts.ensures docs asked.are) in
    let ranked = ranking-is c.args.ask.now (take c.args.before docs) c.in-Ranking.ranking (sym c.in-Ranking.is ∙ c.in_ok-reply.ensures docs (length c.args.shards.now) parts) in
    record { k = ranked.k; words = ranked.words; docs = docs; are = asked.are; ranking_is = ranked.ranking_is }

pub returns-in-Reply : goal.returns-in-Reply
returns-in-Reply c = λ docs asked.
    let parts = parts-are c.args.ask.now c.args.shards.now docs c.args.before c.in_ok-parts.parts.items asked (c.in_ok-parts.ensures docs asked.are) in
    reply-is c.args.ask.now (take c.args.before docs) c.in-Reply.reply (sym c.in-Reply.is ∙ c.in_ok-reply.ensures docs (length c.args.shards.now) parts)

pub returns-in-Ranking : goal.returns-in-Ranking
returns-in-Ranking c = λ docs asked.
    let first = take c.args.before docs in
    let parts = parts-are c.args.ask.now c.args.shards.now docs c.args.before c.in_ok-parts.parts.items asked (c.in_ok-parts.ensures docs asked.are) in
    let ranked = ranking-is c.args.ask.now first c.in-Ranking.ranking (sym c.in-Ranking.is ∙ c.in_ok-reply.ensures docs (length c.args.shards.now) parts) in
    IfOk-weaker c.answer.result _ _
    (λ reply is. is ∙ sym (ap (λ a. answer a first) ranked.asks_are))
    (c.answer.ensures ranked.k ranked.words docs asked.are ranked.ranking_is)
