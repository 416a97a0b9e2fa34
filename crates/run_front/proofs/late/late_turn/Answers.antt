use Rattle.std.proofs.Common.{map, subst}
use Rattle.fan_model.specs.Tasks.{front_exec}
use Rattle.query_opening.specs.Turns.{IsCancelled}
use Rattle.run_notes.specs.Told.{run_of_direct}
use Rattle.run_plan.specs.declared.turn.Turn.{Turn}
use Rattle.run_desks.specs.Turns.{IsTurnAt}
use Rattle.query_tasks.proofs.Loops.{on_err}
use Rattle.run_front.proofs.Running.{on_ok, runs_same, some_same, told_same, told_some_same}
use Rattle.std.proofs.lemmas.Result.{on_ok_weaker}
use Rattle.run_front.proofs.Posting.{posted_cancelled}
use Rattle.run_front.proofs.late.late_turn.Goals as goal

pub returns-in-Cancel-clause-direct : goal.returns-in-Cancel-clause-direct
returns-in-Cancel-clause-direct g c = λ start first within so_far.
    let asked = g.N.RunName.asked in
    let cancelled : IsCancelled asked c.args.place c.in-Cancel.number = subst (λ (t : Turn). IsTurnAt asked c.args.place t) c.in-Cancel.is c.requires.turn in
    on_ok c.cancel_query.result
    (λ down. runs_same asked (front_exec asked.bases) start c.args.place first (map run_of_direct c.args.direct.now)
    (c.place_by_place.ensures.cancelled asked.lines start c.args.place cancelled.query cancelled.comes within) so_far)

pub returns-in-Cancel-clause-some : goal.returns-in-Cancel-clause-some
returns-in-Cancel-clause-some g c = λ start first within so_far.
    let asked = g.N.RunName.asked in
    let cancelled : IsCancelled asked c.args.place c.in-Cancel.number = subst (λ (t : Turn). IsTurnAt asked c.args.place t) c.in-Cancel.is c.requires.turn in
    on_err c.cancel_query.result
    (λ down. some_same asked (front_exec asked.bases) start c.args.place first (map run_of_direct c.args.direct.now)
    (c.place_by_place.ensures.cancelled asked.lines start c.args.place cancelled.query cancelled.comes within) so_far)

pub returns-in-Cancel-clause-told : goal.returns-in-Cancel-clause-told
returns-in-Cancel-clause-told g c = λ start first within so_far.
    let asked = g.N.RunName.asked in
    let cancelled : IsCancelled asked c.args.place c.in-Cancel.number = subst (λ (t : Turn). IsTurnAt asked c.args.place t) c.in-Cancel.is c.requires.turn in
    on_ok c.cancel_query.result
    (told_same asked (front_exec asked.bases) start c.args.place first c.args.direct.now
    (c.place_by_place.ensures.cancelled asked.lines start c.args.place cancelled.query cancelled.comes within) so_far)

pub returns-in-Cancel-clause-told_some : goal.returns-in-Cancel-clause-told_some
returns-in-Cancel-clause-told_some g c = λ start first within so_far.
    let asked = g.N.RunName.asked in
    let cancelled : IsCancelled asked c.args.place c.in-Cancel.number = subst (λ (t : Turn). IsTurnAt asked c.args.place t) c.in-Cancel.is c.requires.turn in
    on_err c.cancel_query.result
    (told_some_same asked (front_exec asked.bases) start c.args.place first c.args.direct.now
    (c.place_by_place.ensures.cancelled asked.lines start c.args.place cancelled.query cancelled.comes within) so_far)

pub returns-in-Cancel-clause-posted : goal.returns-in-Cancel-clause-posted
returns-in-Cancel-clause-posted g c = λ first so_far.
    let asked = g.N.RunName.asked in
    let cancelled : IsCancelled asked c.args.place c.in-Cancel.number = subst (λ (t : Turn). IsTurnAt asked c.args.place t) c.in-Cancel.is c.requires.turn in
    on_ok_weaker c.cancel_query.result (λ more.
    posted_cancelled asked c.args.place c.in-Cancel.number cancelled.query first c.args.front.now.printer c.cancel_query.new.front.printer cancelled.comes.at cancelled.number_is more so_far)
    c.cancel_query.ensures.posted
