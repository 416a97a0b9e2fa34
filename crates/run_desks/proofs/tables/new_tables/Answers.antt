use Rattle.std.proofs.Common.{◌∙◌, arith}
use Rattle.run_desks.proofs.Awaiting.{dealt_new}
use Rattle.run_desks.proofs.tables.new_tables.Goals as goal

pub making-preserved : goal.making-preserved
making-preserved g c =
    let old = c.making.tables.items in
    let table = c.in-Ok-new.table in
    let e = c.in-Ok-new.ensures in
    record {
      most = omega (arith, c.push_reserved.ensures.len, c.making-test.true, c.len.ensures);
      room = c.push_reserved.ensures.capacity ∙ c.making.invariant.room;
      dealt = dealt_new g.N.RunName.asked c.args.highest c.args.bases c.args.shards old c.push_reserved.new.self.items table
          c.requires.of_bases c.requires.of_shards c.requires.comings e.numbers e.nothing e.places c.push_reserved.ensures.items c.making.invariant.dealt;
    }
