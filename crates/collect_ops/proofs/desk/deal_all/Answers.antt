use Rattle.std.proofs.Common.{refl, ◌∙◌}
use Rattle.collect_ops.proofs.Seats.{dealt_none, dealt_one}
use Rattle.collect_ops.proofs.desk.deal_all.Goals as goal

pub loop-index-init : goal.loop-index-init
loop-index-init g c = record {
  dealt = dealt_none _ _ _ _ c.requires.dealer c.requires.room.0;
  room = refl;
}

pub loop-index-preserved : goal.loop-index-preserved
loop-index-preserved g c =
    let so = c.loop-index.invariant.dealt in
    let r = so.dealer.ending in record {
      dealt = dealt_one _ _ _ _ _ _ _ _ _ so (c.deal_arrival-arrival.ensures.dealer r so.dealer.sits.stands) (c.deal_arrival-arrival.ensures.dealt r so.dealer.sits.stands) c.push_reserved.ensures.items;
      room = c.push_reserved.ensures.capacity ∙ c.loop-index.invariant.room;
    }
