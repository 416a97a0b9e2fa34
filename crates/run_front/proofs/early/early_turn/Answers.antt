use Rattle.std.proofs.Common.{map, subst, arith}
use Rattle.fan_model.specs.Tasks.{pool_exec}
use Rattle.pool_model.specs.Passes.{adds_of}
use Rattle.query_opening.specs.Turns.{IsCancelled}
use Rattle.run_notes.specs.Told.{run_of_add}
use Rattle.run_plan.specs.declared.turn.Turn.{Turn}
use Rattle.run_desks.specs.Turns.{IsTurnAt}
use Rattle.query_tasks.proofs.Loops.{on_err}
use Rattle.run_front.proofs.Running.{on_ok, runs_same, some_same}
use Rattle.std.proofs.lemmas.Result.{on_ok_weaker}
use Rattle.run_front.proofs.Posting.{posted_cancelled}
use Rattle.run_front.proofs.early.early_turn.Goals as goal

pub returns-in-Cancel-clause-added : goal.returns-in-Cancel-clause-added
returns-in-Cancel-clause-added g c = λ first so_far.
    let asked = g.N.RunName.asked in
    let cancelled : IsCancelled asked c.args.place c.in-Cancel.number = subst (λ (t : Turn). IsTurnAt asked c.args.place t) c.in-Cancel.is c.requires.turn in
    on_ok c.cancel_query.result
    (runs_same asked pool_exec 0 c.args.place first (map run_of_add (adds_of c.args.adder.now))
    (c.place_by_place.ensures.cancelled asked.lines 0 c.args.place cancelled.query cancelled.comes (omega arith)) so_far)

pub returns-in-Cancel-clause-some : goal.returns-in-Cancel-clause-some
returns-in-Cancel-clause-some g c = λ first so_far.
    let asked = g.N.RunName.asked in
    let cancelled : IsCancelled asked c.args.place c.in-Cancel.number = subst (λ (t : Turn). IsTurnAt asked c.args.place t) c.in-Cancel.is c.requires.turn in
    on_err c.cancel_query.result
    (some_same asked pool_exec 0 c.args.place first (map run_of_add (adds_of c.args.adder.now))
    (c.place_by_place.ensures.cancelled asked.lines 0 c.args.place cancelled.query cancelled.comes (omega arith)) so_far)

pub returns-in-Cancel-clause-posted : goal.returns-in-Cancel-clause-posted
returns-in-Cancel-clause-posted g c = λ first so_far.
    let asked = g.N.RunName.asked in
    let cancelled : IsCancelled asked c.args.place c.in-Cancel.number = subst (λ (t : Turn). IsTurnAt asked c.args.place t) c.in-Cancel.is c.requires.turn in
    on_ok_weaker c.cancel_query.result (λ more.
    posted_cancelled asked c.args.place c.in-Cancel.number cancelled.query first c.args.front.now.printer c.cancel_query.new.front.printer cancelled.comes.at cancelled.number_is more so_far)
    c.cancel_query.ensures.posted
