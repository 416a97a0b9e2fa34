use Rattle.std.proofs.Common.{◌∙◌, arith}
use Rattle.collect_ops.proofs.Lists.{filled, has_one}
use Rattle.collect_ops.proofs.Keeping.{arrival_takes_slot, arrival_keeps}
use Rattle.collect_ops.proofs.steps.keep.Goals as goal

pub load-requires : goal.load-requires
load-requires g c =
    let desk = c.requires.desk in
    let ready = c.requires.ready in
    (ready.1.of_table, omega (arith, desk.words), arrival_takes_slot _ _ _ ready.0 _ _ ready.1.stands)

pub put-requires : goal.put-requires
put-requires g c =
    let ready = c.requires.ready in
    (c.load.ensures.0 ∙ ready.1.of_table, has_one _ _ _ _ (c.load.ensures.2 _ _ _ ready.1.stands))

pub fetch_sub-requires : goal.fetch_sub-requires
fetch_sub-requires g c =
    let desk = c.requires.desk in
    let ready = c.requires.ready in
    (c.put.ensures.of_table, omega (arith, desk.words), arrival_keeps _ _ _ ready.0 _ c.args.outcome _ (filled _ _ _ _ _ _ c.put.ensures.stands (c.load.ensures.2 _ _ _ ready.1.stands)))

pub returns-clause-more : goal.returns-clause-more
returns-clause-more g c r is ne =
    let kept = (c.fetch_sub.ensures.2 _ _ _ _ (filled _ _ _ _ _ _ c.put.ensures.stands (c.load.ensures.2 _ _ _ is))).0 ne in
    (kept.0, kept.1, record { of_table = c.fetch_sub.ensures.0 ∙ c.put.ensures.of_table; stands = kept.2 })

pub returns-clause-last : goal.returns-clause-last
returns-clause-last g c r is one =
    let all = (c.fetch_sub.ensures.2 _ _ _ _ (filled _ _ _ _ _ _ c.put.ensures.stands (c.load.ensures.2 _ _ _ is))).1 one in
    (all.0, all.1, all.2, record { of_table = c.fetch_sub.ensures.0 ∙ c.put.ensures.of_table; stands = all.3 })
