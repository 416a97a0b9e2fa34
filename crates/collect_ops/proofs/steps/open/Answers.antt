use Rattle.std.proofs.Common.{◌∙◌, arith}
use Rattle.collect_ops.proofs.Opening.{takes_the_end_slot, gives_the_end, holds_end, has_slot}
use Rattle.collect_ops.proofs.steps.open.Goals as goal

pub load-requires : goal.load-requires
load-requires g c =
    let desk = c.requires.desk in
    (c.requires.making.of_table, omega (arith, desk.words), takes_the_end_slot _ _ _ c.requires.making.stands)

pub put-requires : goal.put-requires
put-requires g c =
    let desk = c.requires.desk in
    (c.load.ensures.0 ∙ c.requires.making.of_table, has_slot _ _ _ desk.slots c.load.ensures.2)

pub load-requires-2 : goal.load-requires-2
load-requires-2 g c =
    let desk = c.requires.desk in
    (c.put.ensures.of_table, omega (arith, desk.words), gives_the_end _ _ _ _ _ desk.slots (holds_end _ _ _ _ _ desk.slots c.load.ensures.2 c.put.ensures.stands))

pub returns : goal.returns
returns g c =
    let desk = c.requires.desk in
    record {
      of_table = c.load-2.ensures.0 ∙ c.put.ensures.of_table;
      stands = c.load-2.ensures.2 _ _ (holds_end _ _ _ _ _ desk.slots c.load.ensures.2 c.put.ensures.stands);
    }
