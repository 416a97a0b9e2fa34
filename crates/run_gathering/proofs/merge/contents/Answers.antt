use Rattle.std.proofs.Common.{length, ap, arith}
use Rattle.run_gathering.proofs.Contents.{parts_more}
use Rattle.run_gathering.proofs.merge.contents.Goals as goal

pub loop-outcome-preserved : goal.loop-outcome-preserved
loop-outcome-preserved g c =
    parts_more g.N.RunName.asked c.args.number (length c.args.list) (length c.loop-outcome.list) (length c.pop.new.self) c.loop-outcome.shard c.loop-outcome.parts.items c.push.new.self.items
    c.in_ok-content.content c.loop-outcome.invariant (omega (arith, ap length c.in-Some.ensures.rest)) c.in-Ok.ensures.items c.in_ok-content.ensures.content
