use Rattle.std.proofs.Common.{rules, List, ◌+◌, map, length, ap, arith}
use Rattle.std.proofs.lemmas.Option.{slice_get-get_or}
use Rattle.query_model.specs.Order.{Asked}
use Rattle.fan_model.specs.Tasks.{front_exec, task_runs}
use Rattle.run_notes.specs.Told.{run_of_direct}
use Rattle.query_tasks.proofs.Loops.{on_err}
use Rattle.run_front.proofs.Running.{some_of, some_to, told_none, told_to_end, told_to_stop}
use Rattle.run_front.proofs.late.late_turns.Goals as goal

pub loop-place-init : goal.loop-place-init
loop-place-init g c = record {
  runs = search rules;
  told = told_none g.N.RunName.asked (front_exec g.N.RunName.asked.bases) c.args.start c.args.direct.now (c.place_by_place.ensures.none g.N.RunName.asked.lines c.args.start);
  follows = search rules;
  made = search rules;
  front = search rules;
  printer = search rules;
  posted = search rules;
}

pub late_turn-requires-clause-turn : goal.late_turn-requires-clause-turn
late_turn-requires-clause-turn g c κs within =
    c.known_turns.ensures.each c.args.turns.now c.loop-place.place _ c.requires.turns c.requires.input c.loop-place.invariant.front.countable
    (slice_get-get_or c.args.turns.now c.loop-place.place _ (search rules))

pub returns-in_err-late_turn-clause-some : goal.returns-in_err-late_turn-clause-some
returns-in_err-late_turn-clause-some g c = on_err c.from_residual.result (λ down.
    let asked = g.N.RunName.asked in
    let before = map run_of_direct c.args.direct.now in
    let some = c.in_err-late_turn.ensures.some c.args.start before (omega arith) (c.loop-place.invariant.runs (c.late_turn.ensures.follows.refused down)) down in
    let all = some_to asked (front_exec asked.bases) c.args.start (c.loop-place.place + 1) (length c.args.turns.now) before (map run_of_direct c.late_turn.new.direct) (omega arith) some in
    some_of before _ _ _ (ap (λ (qs : List Asked). task_runs asked.lines asked.shards (front_exec asked.bases) qs) (c.place_by_place.ensures.behind asked.lines c.args.turns.now c.args.start c.requires.turns)) all)

pub returns-in_err-late_turn-clause-told : goal.returns-in_err-late_turn-clause-told
returns-in_err-late_turn-clause-told g c =
    let asked = g.N.RunName.asked in
    told_to_stop asked (front_exec asked.bases) c.args.start (c.loop-place.place + 1) (length c.args.turns.now) _ _ c.late_turn.new.direct (omega arith)
    (ap (λ (qs : List Asked). task_runs asked.lines asked.shards (front_exec asked.bases) qs) (c.place_by_place.ensures.behind asked.lines c.args.turns.now c.args.start c.requires.turns))
    (c.in_err-late_turn.ensures.told_some c.args.start _ (omega arith) c.loop-place.invariant.told)
