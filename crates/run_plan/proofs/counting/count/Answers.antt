use Rattle.std.proofs.Common.{◌≡◌, ◌≤◌, ◌^◌, length, replicate, refl, arith}
use Rattle.run_plan.proofs.Coming.{few_between}
use Rattle.run_plan.proofs.Counted.{few_counted, none_counted}
use Rattle.run_plan.proofs.counting.count.Goals as goal

pub places-init : goal.places-init
places-init c =
    let zeros : c.in_ok-vec.field-0.items ≡ replicate c.args.bases 0 = c.in_ok-vec.ensures.items_if_clones_equal (λ y same. same) in
    none_counted c.args.lines.now c.args.bases _ (c.place_by_place.ensures.none c.args.lines.now 0) refl refl zeros

pub returns-clause-few_answered : goal.returns-clause-few_answered
returns-clause-few_answered c =
    let many : length c.args.turns.now ≤ 50000 = c.turns_are_few.ensures.few c.args.lines.now c.args.turns.now c.requires.turns c.requires.input in
    (few_counted c.args.lines.now c.args.bases c.places.place 50000 c.places.counted (few_between c.args.lines.now c.args.turns.now 0 c.places.place 50000 many c.requires.turns) c.places.invariant).answered

pub returns-clause-few_tops : goal.returns-clause-few_tops
returns-clause-few_tops c =
    let many : length c.args.turns.now ≤ 50000 = c.turns_are_few.ensures.few c.args.lines.now c.args.turns.now c.requires.turns c.requires.input in
    (few_counted c.args.lines.now c.args.bases c.places.place 50000 c.places.counted (few_between c.args.lines.now c.args.turns.now 0 c.places.place 50000 many c.requires.turns) c.places.invariant).tops

pub returns-clause-few_by_base : goal.returns-clause-few_by_base
returns-clause-few_by_base c =
    let few : length c.args.turns.now ≤ 50000 = c.turns_are_few.ensures.few c.args.lines.now c.args.turns.now c.requires.turns c.requires.input in
    let many : length c.args.turns.now ≤ 2 ^ 32 = omega arith in
    (few_counted c.args.lines.now c.args.bases c.places.place (2 ^ 32) c.places.counted (few_between c.args.lines.now c.args.turns.now 0 c.places.place (2 ^ 32) many c.requires.turns) c.places.invariant).all
