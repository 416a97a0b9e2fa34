use Rattle.std.proofs.Common.{arith}
use Rattle.run_desks.proofs.Counting.{counted_none}
use Rattle.run_desks.proofs.run.await_all.Goals as goal

pub loop-place-init : goal.loop-place-init
loop-place-init g c = record {
  of = c.requires.of;
  tables = c.requires.tables;
  dealt = c.requires.dealt;
  counted = counted_none g.N.RunName.asked 0 c.args.keys.now.tally (c.place_by_place.ensures.none g.N.RunName.asked.lines 0);
  keys = c.requires.keys;
}

pub loop-place-preserved : goal.loop-place-preserved
loop-place-preserved g c =
    let i = c.loop-place.invariant in
    let e = c.await_turn.ensures in
    record {
      of = e.of;
      tables = e.tables;
      dealt = e.dealt;
      counted = e.counted 0 c.args.keys.now.tally (omega arith) i.counted;
      keys = e.keys;
    }
