use Rattle.std.proofs.Common.{List, ℕ, ◌≤◌, ◌∙◌, ap, length, sym, subst}
use Rattle.query_model.specs.Order.{Asked}
use Rattle.fan_model.specs.Answered.{tops_in}
use Rattle.run_gathering.specs.Dealt.{AreDealt}
use Rattle.fanout.proofs.Totals.{opening_made}
use Rattle.fanout.proofs.levels.over_keys.Goals as goal

pub await_queries-requires-clause-keys : goal.await_queries-requires-clause-keys
await_queries-requires-clause-keys g c κs within =
    let begun = sym (c.comings_in_order.ensures.begun g.N.RunName.asked.lines) in
    let keys = c.args.keys in
    record {
      replies = subst (λ (l : List Asked). length l ≤ length keys.replies.items) begun c.requires.keys.replies;
      inners = subst (λ (l : List Asked). tops_in l ≤ length keys.inners.items) begun c.requires.keys.inners;
    }

pub over_queries-requires-clause-dealt : goal.over_queries-requires-clause-dealt
over_queries-requires-clause-dealt g c κs within =
    let many = c.known_turns.ensures.as_many c.args.plan.now.turns.now c.requires.plan.turns_are in
    subst (λ (n : ℕ). AreDealt g.N.RunName.asked n c.in-Ok.queries.tables.items) many c.in-Ok.ensures.dealt

pub over_queries-requires-clause-opening : goal.over_queries-requires-clause-opening
over_queries-requires-clause-opening g c κs within = ap (λ t. t.handed) c.in-Ok.ensures.counted.are ∙ c.requires.nothing

pub over_queries-requires-clause-begun : goal.over_queries-requires-clause-begun
over_queries-requires-clause-begun g c κs within =
    let asked = g.N.RunName.asked in
    let turns = c.args.plan.now.turns.now in
    opening_made asked (length turns) c.args.keys.tally _ (c.place_by_place.ensures.all asked.lines turns c.requires.plan.turns_are) c.requires.none c.in-Ok.ensures.counted

pub returns-in-Err : goal.returns-in-Err
returns-in-Err g c = c.refused.ensures _ _
