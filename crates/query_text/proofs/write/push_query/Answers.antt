use Rattle.query_text.proofs.WriteLemmas.{query_done}
use Rattle.query_text.proofs.write.push_query.Goals as goal

pub returns : goal.returns
returns c =
    query_done c.push_ask.result c.args.query.now c.args.text.now.items c.push_delay.new.text.items c.push_prio.new.text.items c.push_ask.new.text.items
    c.in_ok-push_delay.ensures c.in_ok-push_prio.ensures c.push_ask.ensures
