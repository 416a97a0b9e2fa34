use Rattle.std.proofs.Common.{◌≡◌, ◌+◌, cond, drop, length, sym, ap, ◌∙◌}
use Rattle.query_model.specs.declared.line.Ask.{Ask}
use Rattle.query_model.specs.Order.{Asked}
use Rattle.fan_model.specs.Answered.{is_top}
use Rattle.fan_model.specs.Comings.{comings_of}
use Rattle.fan_parts.specs.Seen.{AskSeen}
use Rattle.run_desks.proofs.KeyCounts.{keys_behind, some_inner}
use Rattle.run_desks.proofs.opening.begin_desk.Goals as goal

pub begin_end-requires-clause-inner : goal.begin_end-requires-clause-inner
begin_end-requires-clause-inner g c κs within =
    let asked = g.N.RunName.asked in
    let b = c.requires.begun in
    let ask = c.numbered_ask-ask.result in
    let asks : ask.asks ≡ b.query.query.ask =
    c.number-number.ensures.is_ask.asks_is ∙ ap (λ (q : Asked). q.query.ask)
    (c.begun_query_is_asked.ensures.same c.args.place c.args.query.number c.args.query.line c.args.query.documents b ask c.number-number.ensures.is_ask c.numbered_ask-ask.ensures.number_is) in
    λ top. some_inner (drop c.args.place (comings_of asked.lines)) (drop (c.args.place + 1) (comings_of asked.lines)) b.query c.args.keys.now
    (c.place_by_place.ensures.next_begun asked.lines c.args.place b.query b.comes) c.requires.keys (sym (ap is_top asks) ∙ top)

pub returns-clause-keys : goal.returns-clause-keys
returns-clause-keys g c =
    let asked = g.N.RunName.asked in
    let b = c.requires.begun in
    let ask = c.numbered_ask-ask.result in
    let asks : ask.asks ≡ b.query.query.ask =
    c.number-number.ensures.is_ask.asks_is ∙ ap (λ (q : Asked). q.query.ask)
    (c.begun_query_is_asked.ensures.same c.args.place c.args.query.number c.args.query.line c.args.query.documents b ask c.number-number.ensures.is_ask c.numbered_ask-ask.ensures.number_is) in
    let made = c.begin_end in
    keys_behind (drop c.args.place (comings_of asked.lines)) (drop (c.args.place + 1) (comings_of asked.lines)) b.query c.args.keys.now _
    (c.place_by_place.ensures.next_begun asked.lines c.args.place b.query b.comes) c.requires.keys made.ensures.replies
    (made.ensures.inners ∙ ap (λ (a : Ask). cond (is_top a) 1 0 + length made.new.keys.inners.items) asks)
