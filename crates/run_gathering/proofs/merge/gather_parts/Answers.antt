use Rattle.std.proofs.Common.{ℕ, length, subst, sym}
use Rattle.query_model.specs.Documents.{docs_of}
use Rattle.fan_parts.specs.Facts.{IsAskOf}
use Rattle.run_gathering.proofs.Contents.{are_parts, same_parts, of_some, merged_is, reply_merged, ranking_merged, placed_answer}
use Rattle.run_gathering.proofs.merge.gather_parts.Goals as goal

pub merge_parts-requires : goal.merge_parts-requires
merge_parts-requires g c =
    let asked = g.N.RunName.asked in
    let q = c.args.ask.now in
    let is : IsAskOf asked c.number.result q.asks q.before = subst (λ (n : ℕ). IsAskOf asked n q.asks q.before) (sym c.number.ensures.number) c.number.ensures.is_ask in
    let whole = are_parts asked c.number.result (length c.args.list) q.before q.asks c.in_ok-parts.parts.items is (c.in_ok-parts.ensures q.asks q.before is) c.requires.all in
    let are = same_parts asked q.before c.before-2.result q.asks c.ask.result.now c.in_ok-parts.parts.items whole c.ask.ensures c.before-2.ensures in
    of_some asked c.before-2.result c.ask.result.now c.in_ok-parts.parts.items are

pub new-requires : goal.new-requires
new-requires g c =
    let asked = g.N.RunName.asked in
    let q = c.args.ask.now in
    let is : IsAskOf asked c.number.result q.asks q.before = subst (λ (n : ℕ). IsAskOf asked n q.asks q.before) (sym c.number.ensures.number) c.number.ensures.is_ask in
    let whole = are_parts asked c.number.result (length c.args.list) q.before q.asks c.in_ok-parts.parts.items is (c.in_ok-parts.ensures q.asks q.before is) c.requires.all in
    let are = same_parts asked q.before c.before-2.result q.asks c.ask.result.now c.in_ok-parts.parts.items whole c.ask.ensures c.before-2.ensures in
    let is_merged = merged_is c.merge_parts.result c.in-Ok-Reply.field-0 _ (docs_of asked.lines) q.asks c.ask.result.now q.before c.before-2.result
    (c.merge_parts.ensures (docs_of asked.lines) asked.shards are) c.in-Ok-Reply.is c.in-Ok-Reply.field-0-is c.ask.ensures c.before-2.ensures in
    placed_answer asked c.args.place q.number c.number-in-Ok-Reply.result q.before q.asks c.in-Ok-Reply.reply c.requires.answer c.number-in-Ok-Reply.ensures.number
    (reply_merged q.asks _ c.in-Ok-Reply.reply is_merged)

pub returns-in-Ok-Reply : goal.returns-in-Ok-Reply
returns-in-Ok-Reply g c =
    let asked = g.N.RunName.asked in
    let q = c.args.ask.now in
    let is : IsAskOf asked c.number.result q.asks q.before = subst (λ (n : ℕ). IsAskOf asked n q.asks q.before) (sym c.number.ensures.number) c.number.ensures.is_ask in
    let whole = are_parts asked c.number.result (length c.args.list) q.before q.asks c.in_ok-parts.parts.items is (c.in_ok-parts.ensures q.asks q.before is) c.requires.all in
    let are = same_parts asked q.before c.before-2.result q.asks c.ask.result.now c.in_ok-parts.parts.items whole c.ask.ensures c.before-2.ensures in
    let is_merged = merged_is c.merge_parts.result c.in-Ok-Reply.field-0 _ (docs_of asked.lines) q.asks c.ask.result.now q.before c.before-2.result
    (c.merge_parts.ensures (docs_of asked.lines) asked.shards are) c.in-Ok-Reply.is c.in-Ok-Reply.field-0-is c.ask.ensures c.before-2.ensures in
    (reply_merged q.asks _ c.in-Ok-Reply.reply is_merged).2

pub returns-in-Ok-Ranking : goal.returns-in-Ok-Ranking
returns-in-Ok-Ranking g c =
    let asked = g.N.RunName.asked in
    let q = c.args.ask.now in
    let is : IsAskOf asked c.number.result q.asks q.before = subst (λ (n : ℕ). IsAskOf asked n q.asks q.before) (sym c.number.ensures.number) c.number.ensures.is_ask in
    let whole = are_parts asked c.number.result (length c.args.list) q.before q.asks c.in_ok-parts.parts.items is (c.in_ok-parts.ensures q.asks q.before is) c.requires.all in
    let are = same_parts asked q.before c.before-2.result q.asks c.ask.result.now c.in_ok-parts.parts.items whole c.ask.ensures c.before-2.ensures in
    let is_merged = merged_is c.merge_parts.result c.in-Ok-Ranking.field-0 _ (docs_of asked.lines) q.asks c.ask.result.now q.before c.before-2.result
    (c.merge_parts.ensures (docs_of asked.lines) asked.shards are) c.in-Ok-Ranking.is c.in-Ok-Ranking.field-0-is c.ask.ensures c.before-2.ensures in
    ranking_merged asked q.asks q.before c.in-Ok-Ranking.ranking is_merged
