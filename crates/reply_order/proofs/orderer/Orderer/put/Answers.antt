use Rattle.std.proofs.Common.{rules, refl}
use Rattle.reply_order.proofs.OneMore.{inserted_as}
use Rattle.reply_order.proofs.orderer.Orderer.put.Goals as goal

pub returns-in-None-clause-ok : goal.returns-in-None-clause-ok
returns-in-None-clause-ok g c = record {
  next = refl;
  list = inserted_as _ _ c.args.place c.args.reply c.requires.free c.in-Ok.ensures.entries;
  held = search rules;
}
