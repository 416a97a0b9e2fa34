use Rattle.std.proofs.Common.{arith}
use Rattle.run_bases.proofs.Opening.{open_more}
use Rattle.run_bases.proofs.making.open_bases.Goals as goal

pub loop-place-preserved : goal.loop-place-preserved
loop-place-preserved g c =
    let i = c.loop-place.invariant in
    record {
      made = open_more g.J.Headed.head c.args.first c.args.senders c.loop-place.place c.loop-place.made c.put.new.self c.in-Ok.base c.in-Ok.column i.made c.put.ensures.items.0 c.put.ensures.items.1
          c.in-Ok.ensures.base c.in-Ok.ensures.column;
      bases = omega (arith, i.bases, c.put.ensures.room.0);
      columns = omega (arith, i.columns, c.put.ensures.room.1);
    }
