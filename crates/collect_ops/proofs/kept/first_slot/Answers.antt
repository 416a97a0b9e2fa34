use Rattle.std.proofs.Common.{◌<◌, ◌∙◌, sym, arith}
use Rattle.collect_ops.proofs.Closing.{none_left, none_counted, all_uncounted, rests_next}
use Rattle.collect_ops.proofs.kept.first_slot.Goals as goal

pub loop-at-preserved : goal.loop-at-preserved
loop-at-preserved g c =
    let lt : c.loop-at.at < c.args.size = omega (arith, c.loop-at-test.true) in
    let others = c.take.ensures.others in
    record {
      rests = rests_next _ _ _ _ c.loop-at.invariant.rests lt others.1 others.2;
      same = record { items = others.0 ∙ c.loop-at.invariant.same.items; words = others.3 ∙ c.loop-at.invariant.same.words };
    }
