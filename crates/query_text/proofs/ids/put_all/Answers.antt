use Rattle.query_text.proofs.KnownLemmas.{puts_next}
use Rattle.query_text.proofs.ids.put_all.Goals as goal

pub loop-id-preserved : goal.loop-id-preserved
loop-id-preserved c = puts_next c.args.set.now c.loop-id.set _ c.args.ids.now c.loop-id.id-index c.loop-id-test.true c.loop-id.invariant c.in_ok-insert.ensures.updates
