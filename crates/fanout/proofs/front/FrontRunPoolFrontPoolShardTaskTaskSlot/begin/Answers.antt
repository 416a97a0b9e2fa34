use Rattle.std.proofs.Common.{refl, rules}
use Rattle.fanout.proofs.front.FrontRunPoolFrontPoolShardTaskTaskSlot.begin.Goals as goal

pub returns : goal.returns
returns g c = record {
  start = c.in-Some.start;
  had = search rules;
  mid = c.first-mid.result;
  has = search rules;
  did = c.first-mid.ensures;
  spent = search rules;
  room = refl;
  end = refl;
  turns = refl;
  stop = refl;
}
