use Rattle.std.proofs.Common.{◌≡◌, ◌≤◌, ℕ, map, refl, sym, ap, ◌∙◌, arith, w8}
use mir.Val.{of_z, to_z}
use Rattle.std.specs.List.{range_with_len}
use Rattle.std.proofs.lemmas.Result.{on_err_weaker, on_ok_weaker}
use Rattle.query_model.specs.Order.{Asked}
use Rattle.fan_model.specs.Tasks.{pool_exec, queue_of, task_run}
use Rattle.fan_parts.specs.Facts.{IsAskOf}
use Rattle.pool_model.specs.Passes.{adds_of}
use Rattle.prio_pool.specs.Priority.{queue_in}
use Rattle.query_tasks.specs.Starting.{adds_for}
use Rattle.run_notes.specs.Told.{run_of_add}
use Rattle.run_front.proofs.Running.{added_few, added_runs, on_ok, queue_is, runs_more, some_more}
use Rattle.run_front.proofs.Posting.{posted_begun}
use Rattle.run_front.proofs.early.early_query.Goals as goal

pub prio_at-requires : goal.prio_at-requires
prio_at-requires g c =
    let b = c.requires.begun in (
      b.query.query,
      c.alike_lines_ask_the_same.ensures.at g.N.RunName.asked.lines c.args.front.now.lines.now c.args.query.line b.query.query (record { same = sym c.requires.front.lines.same })
          (c.begun_query_is_asked.ensures.line c.args.place c.args.query.number c.args.query.line c.args.query.documents b),
    )

pub gathering_exec-exec-requires-clause-number : goal.gathering_exec-exec-requires-clause-number
gathering_exec-exec-requires-clause-number g c =
    let one : 1 ≤ c.args.query.number = c.begun_query_is_asked.ensures.from_one c.args.place c.args.query.number c.args.query.line c.args.query.documents c.requires.begun in
    let same : c.number-number.result ≡ c.args.query.number =
    c.number-number.ensures.number ∙ c.numbered_ask-ask.ensures.number_is in
    omega (arith, one, same)

pub returns-clause-added : goal.returns-clause-added
returns-clause-added g c = λ first so_far.
    let asked = g.N.RunName.asked in
    let b = c.requires.begun in
    let ask = c.numbered_ask-ask.result in
    let shards = c.args.front.now.shards in
    let is_ask : IsAskOf asked ask.number ask.asks ask.before = c.number-number.ensures.is_ask in
    let here : ask.number ≡ c.args.query.number = c.numbered_ask-ask.ensures.number_is in
    let same : is_ask.query ≡ b.query =
    c.begun_query_is_asked.ensures.same c.args.place c.args.query.number c.args.query.line c.args.query.documents b ask is_ask here in
    let prio : c.prio_at.result ≡ b.query.query.prio =
    c.prio_at.ensures b.query.query
    (c.alike_lines_ask_the_same.ensures.at asked.lines c.args.front.now.lines.now c.args.query.line b.query.query (record { same = sym c.requires.front.lines.same })
    (c.begun_query_is_asked.ensures.line c.args.place c.args.query.number c.args.query.line c.args.query.documents b)) in
    let at : ℕ = queue_in c.args.pool.now.id (to_z w8 (of_z w8 c.priority_of-priority.result)) in
    let queue : at ≡ queue_of is_ask.query.query.prio =
    queue_is _ c.prio_at.result is_ask.query.query.prio c.priority_of-priority.result c.requires.queues c.priority_of-priority.ensures
    (prio ∙ ap (λ (q : Asked). q.query.prio) (sym same)) in
    let runs : map run_of_add (adds_for asked ask at shards)
    ≡ map (task_run asked.lines asked.shards pool_exec b.query) (range_with_len 0 asked.shards) =
    ap (λ (k : ℕ). map run_of_add (adds_for asked ask k shards)) queue
    ∙ (c.tasks_are_runs.ensures.added asked ask is_ask shards
    ∙ (ap (λ (q : Asked). map (task_run asked.lines asked.shards pool_exec q) (range_with_len 0 shards)) same
    ∙ ap (λ (n : ℕ). map (task_run asked.lines asked.shards pool_exec b.query) (range_with_len 0 n)) c.requires.front.shards)) in
    on_ok_weaker c.start_tasks.result (λ has.
    runs_more asked pool_exec 0 c.args.place b.query first _ _ (c.place_by_place.ensures.begun asked.lines 0 c.args.place b.query b.comes (omega arith))
    (added_runs (adds_of c.args.adder.now) (adds_for asked ask at shards) (adds_of c.start_tasks.new.adder) _ has.adds runs) so_far) c.start_tasks.ensures.added

pub returns-clause-some : goal.returns-clause-some
returns-clause-some g c = λ first so_far.
    let asked = g.N.RunName.asked in
    let b = c.requires.begun in
    let ask = c.numbered_ask-ask.result in
    let is_ask : IsAskOf asked ask.number ask.asks ask.before = c.number-number.ensures.is_ask in
    let here : ask.number ≡ c.args.query.number = c.numbered_ask-ask.ensures.number_is in
    let same : is_ask.query ≡ b.query =
    c.begun_query_is_asked.ensures.same c.args.place c.args.query.number c.args.query.line c.args.query.documents b ask is_ask here in
    let prio : c.prio_at.result ≡ b.query.query.prio =
    c.prio_at.ensures b.query.query
    (c.alike_lines_ask_the_same.ensures.at asked.lines c.args.front.now.lines.now c.args.query.line b.query.query (record { same = sym c.requires.front.lines.same })
    (c.begun_query_is_asked.ensures.line c.args.place c.args.query.number c.args.query.line c.args.query.documents b)) in
    let at : ℕ = queue_in c.args.pool.now.id (to_z w8 (of_z w8 c.priority_of-priority.result)) in
    let queue : at ≡ queue_of is_ask.query.query.prio =
    queue_is _ c.prio_at.result is_ask.query.query.prio c.priority_of-priority.result c.requires.queues c.priority_of-priority.ensures
    (prio ∙ ap (λ (q : Asked). q.query.prio) (sym same)) in
    on_err_weaker c.start_tasks.result (λ has.
    let runs : map run_of_add (adds_for asked ask at has.count)
    ≡ map (task_run asked.lines asked.shards pool_exec b.query) (range_with_len 0 has.count) =
    ap (λ (k : ℕ). map run_of_add (adds_for asked ask k has.count)) queue
    ∙ (c.tasks_are_runs.ensures.added asked ask is_ask has.count
    ∙ ap (λ (q : Asked). map (task_run asked.lines asked.shards pool_exec q) (range_with_len 0 has.count)) same) in
    let few : has.count ≤ asked.shards = let shards : c.args.front.now.shards ≡ asked.shards = c.requires.front.shards in omega (arith, has.within, shards) in
    some_more asked pool_exec 0 c.args.place has.count b.query first _ _ (c.place_by_place.ensures.begun asked.lines 0 c.args.place b.query b.comes (omega arith)) few
    (added_runs (adds_of c.args.adder.now) (adds_for asked ask at has.count) (adds_of c.start_tasks.new.adder) _ has.added.adds runs) so_far) c.start_tasks.ensures.some

pub returns-clause-few : goal.returns-clause-few
returns-clause-few g c =
    let asked = g.N.RunName.asked in
    let few : c.args.front.now.shards ≤ 64 =
    let most = c.requires.front.countable.few_shards in let same : c.args.front.now.shards ≡ asked.shards = c.requires.front.shards in omega (arith, most, same) in
    on_ok_weaker c.start_tasks.result (λ has.
    added_few asked c.numbered_ask-ask.result (queue_in c.args.pool.now.id (to_z w8 (of_z w8 c.priority_of-priority.result))) c.args.front.now.shards (adds_of c.args.adder.now) (adds_of c.start_tasks.new.adder)
    has.adds few) c.start_tasks.ensures.added

pub returns-clause-posted : goal.returns-clause-posted
returns-clause-posted g c = λ first so_far.
    let asked = g.N.RunName.asked in
    let b = c.requires.begun in
    on_ok c.start_tasks.result
    (posted_begun asked c.args.place b.query first c.args.front.now.printer c.args.front.now.printer b.comes.at
    refl so_far)
