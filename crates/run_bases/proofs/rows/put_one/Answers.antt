use Rattle.std.proofs.Common.{sym, subst, arith}
use Rattle.run_bases.specs.Columns.{AreBack}
use Rattle.run_bases.proofs.Backs.{back_more}
use Rattle.run_bases.proofs.rows.put_one.Goals as goal

pub returns : goal.returns
returns g c = λ queue exec senders left low column is. record {
  posters = column.posters;
  back = subst (λ l. AreBack g.J.Headed.head queue exec senders low l) (sym c.push_reserved.ensures.items)
      (back_more g.J.Headed.head queue exec senders low c.args.column.now.ends.items c.args.end column.back is);
  room = omega (arith, column.room, c.push_reserved.ensures.capacity);
}
