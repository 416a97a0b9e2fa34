use Rattle.std.proofs.Common.{◌≡◌, ℕ, ◌+◌, ◌-◌, ◌%◌, ◌<◌, ◌≤◌, length, ap, arith}
use Rattle.fan_model.specs.Notes.{base_of}
use Rattle.run_plan.proofs.Coming.{Said, cancelled_at, few_between, said_at}
use Rattle.run_plan.proofs.Counted.{IsFew, few_counted, one_more_counted, same_counted}
use Rattle.run_plan.proofs.counting.count_turn.Goals as goal

pub count_query-requires-clause-number : goal.count_query-requires-clause-number
count_query-requires-clause-number c =
    (said_at c.args.lines.now c.args.turns.now c.args.place c.in-Begin.query c.comings_are_queries.ensures.line c.comings_are_queries.ensures.from_one c.requires.turns c.requires.place _ c.in-Begin.is).from_one

pub count_query-requires-clause-line : goal.count_query-requires-clause-line
count_query-requires-clause-line c =
    let said : Said c.args.lines.now c.args.place c.in-Begin.query =
    said_at c.args.lines.now c.args.turns.now c.args.place c.in-Begin.query c.comings_are_queries.ensures.line c.comings_are_queries.ensures.from_one c.requires.turns c.requires.place _ c.in-Begin.is in
    (said.asked.query, said.said)

pub count_query-requires-clause-bases : goal.count_query-requires-clause-bases
count_query-requires-clause-bases c =
    let many : length c.args.turns.now ≤ 50000 = c.turns_are_few.ensures.few c.args.lines.now c.args.turns.now c.requires.turns c.requires.input in
    (c.requires.bases, (few_counted c.args.lines.now c.args.bases c.args.place 50000 c.args.counted.now (few_between c.args.lines.now c.args.turns.now 0 c.args.place 50000 many c.requires.turns) c.requires.counted).as_many)

pub count_query-requires-clause-few : goal.count_query-requires-clause-few
count_query-requires-clause-few c =
    let many : length c.args.turns.now ≤ 50000 = c.turns_are_few.ensures.few c.args.lines.now c.args.turns.now c.requires.turns c.requires.input in
    let few : IsFew c.args.bases 50000 c.args.counted.now =
    few_counted c.args.lines.now c.args.bases c.args.place 50000 c.args.counted.now (few_between c.args.lines.now c.args.turns.now 0 c.args.place 50000 many c.requires.turns) c.requires.counted in
    (few.answered, few.tops)

pub count_query-requires-clause-few_there : goal.count_query-requires-clause-few_there
count_query-requires-clause-few_there c =
    let many : length c.args.turns.now ≤ 50000 = c.turns_are_few.ensures.few c.args.lines.now c.args.turns.now c.requires.turns c.requires.input in
    let few : IsFew c.args.bases 50000 c.args.counted.now =
    few_counted c.args.lines.now c.args.bases c.args.place 50000 c.args.counted.now (few_between c.args.lines.now c.args.turns.now 0 c.args.place 50000 many c.requires.turns) c.requires.counted in
    let some : 0 < c.args.bases = omega (arith, c.requires.bases) in
    let within : (c.in-Begin.query.number - 1) % c.args.bases < c.args.bases = omega arith in
    few.each ((c.in-Begin.query.number - 1) % c.args.bases) within

pub returns-in-Begin : goal.returns-in-Begin
returns-in-Begin c =
    let said : Said c.args.lines.now c.args.place c.in-Begin.query =
    said_at c.args.lines.now c.args.turns.now c.args.place c.in-Begin.query c.comings_are_queries.ensures.line c.comings_are_queries.ensures.from_one c.requires.turns c.requires.place _ c.in-Begin.is in
    let k : ℕ = (c.in-Begin.query.number - 1) % c.args.bases in
    let some : 0 < c.args.bases = omega (arith, c.requires.bases) in
    let within : (c.in-Begin.query.number - 1) % c.args.bases < c.args.bases = omega arith in
    let base : 1 + (c.in-Begin.query.number - 1) % c.args.bases ≡ base_of c.args.bases said.asked.number = ap (base_of c.args.bases) said.names in
    one_more_counted c.args.lines.now c.args.bases c.args.place said.asked c.args.counted.now c.count_query.new.counted
    (c.place_by_place.ensures.begun c.args.lines.now 0 c.args.place said.asked said.comes (omega arith)) k within base
    c.requires.counted c.count_query.ensures.answered (c.count_query.ensures.tops said.asked.query said.said) c.count_query.ensures.by_base

pub returns-in-Cancel : goal.returns-in-Cancel
returns-in-Cancel c =
    let cancels = cancelled_at c.args.lines.now c.args.turns.now c.args.place c.in-Cancel.field-0 c.requires.turns c.requires.place _ c.in-Cancel.is in
    same_counted c.args.lines.now c.args.bases c.args.place c.args.counted.now (c.place_by_place.ensures.cancelled c.args.lines.now 0 c.args.place cancels.asked cancels.comes (omega arith)) c.requires.counted
