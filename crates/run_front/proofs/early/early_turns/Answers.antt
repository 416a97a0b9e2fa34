use Rattle.std.proofs.Common.{List, [], ◌+◌, map, ap, ◌∙◌, arith}
use Rattle.query_model.specs.Order.{Asked}
use Rattle.fan_model.specs.Tasks.{pool_exec, task_runs}
use Rattle.pool_model.specs.Passes.{adds_of}
use Rattle.run_notes.specs.Told.{run_of_add}
use Rattle.query_tasks.proofs.Helping.{helped_more}
use Rattle.query_tasks.proofs.Loops.{on_err}
use Rattle.run_front.proofs.Running.{some_of, some_to}
use Rattle.run_front.proofs.early.early_turns.Goals as goal

pub returns-in_err-early_turn-clause-helped : goal.returns-in_err-early_turn-clause-helped
returns-in_err-early_turn-clause-helped g c = helped_more _ _ _ _ _ _ c.loop-place.invariant.helped c.early_turn.ensures.helped

pub returns-in_err-early_turn-clause-some : goal.returns-in_err-early_turn-clause-some
returns-in_err-early_turn-clause-some g c =
    let asked = g.N.RunName.asked in
    let some = c.in_err-early_turn.ensures.some [] c.loop-place.invariant.runs in
    let all = some_to asked pool_exec 0 (c.loop-place.place + 1) c.args.end [] (map run_of_add (adds_of c.early_turn.new.adder)) (omega arith) some in
    on_err c.from_residual.result (some_of [] _ _ _ (ap (λ (qs : List Asked). task_runs asked.lines asked.shards pool_exec qs) (c.place_by_place.ensures.before asked.lines c.args.end)) all)

pub returns-in_err-early_turn-clause-made : goal.returns-in_err-early_turn-clause-made
returns-in_err-early_turn-clause-made g c has = c.early_turn.ensures.made (c.loop-place.invariant.made has)

pub loop-place-preserved : goal.loop-place-preserved
loop-place-preserved g c =
    let i = c.loop-place.invariant in
    let e = c.early_turn.ensures in
    let ok = c.in_ok-early_turn.ensures in
    record {
      runs = ok.added [] i.runs;
      few = omega (arith, ok.few, i.few);
      pool = e.adder.0 ∙ i.pool;
      number = e.adder.1 ∙ i.number;
      helped = helped_more _ _ _ _ _ _ i.helped e.helped;
      made = λ has. e.made (i.made has);
      front = e.front;
      printer = e.printer ∙ i.printer;
      posted = λ first so_far. ok.posted first (i.posted first so_far);
    }
