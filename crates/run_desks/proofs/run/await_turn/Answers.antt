use Rattle.std.proofs.Common.{◌+◌, drop, refl, subst}
use Rattle.fan_model.specs.Comings.{comings_of}
use Rattle.query_opening.specs.Turns.{IsCancelled}
use Rattle.run_plan.specs.declared.turn.Turn.{Turn}
use Rattle.run_desks.specs.Turns.{IsTurnAt}
use Rattle.run_desks.proofs.Awaiting.{dealt_cancelled}
use Rattle.run_desks.proofs.Counting.{counted_same}
use Rattle.run_desks.proofs.KeyCounts.{keys_same}
use Rattle.run_desks.proofs.run.await_turn.Goals as goal

pub returns-in-Cancel-clause-counted : goal.returns-in-Cancel-clause-counted
returns-in-Cancel-clause-counted g c = λ start first within so_far.
    let asked = g.N.RunName.asked in
    let cancelled : IsCancelled asked c.args.place c.in-Cancel.number = subst (λ (t : Turn). IsTurnAt asked c.args.place t) c.in-Cancel.is c.requires.turn in
    counted_same asked start c.args.place first c.args.keys.now.tally c.args.keys.now.tally
    (c.place_by_place.ensures.cancelled asked.lines start c.args.place cancelled.query cancelled.comes within) refl so_far

pub returns-in-Cancel-clause-keys : goal.returns-in-Cancel-clause-keys
returns-in-Cancel-clause-keys g c =
    let asked = g.N.RunName.asked in
    let cancelled : IsCancelled asked c.args.place c.in-Cancel.number = subst (λ (t : Turn). IsTurnAt asked c.args.place t) c.in-Cancel.is c.requires.turn in
    keys_same (drop c.args.place (comings_of asked.lines)) (drop (c.args.place + 1) (comings_of asked.lines)) c.args.keys.now
    (c.place_by_place.ensures.next_cancelled asked.lines c.args.place cancelled.query cancelled.comes) c.requires.keys

pub returns-in-Cancel-clause-dealt : goal.returns-in-Cancel-clause-dealt
returns-in-Cancel-clause-dealt g c =
    let asked = g.N.RunName.asked in
    let cancelled : IsCancelled asked c.args.place c.in-Cancel.number = subst (λ (t : Turn). IsTurnAt asked c.args.place t) c.in-Cancel.is c.requires.turn in
    dealt_cancelled asked c.args.place cancelled.query c.args.tables.now.items cancelled.comes c.requires.dealt
