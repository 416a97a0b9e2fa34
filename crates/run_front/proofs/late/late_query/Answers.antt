use Rattle.std.proofs.Common.{◌≡◌, ◌+◌, ◌++◌, ◌≤◌, ℕ, List, map, refl, sym, ap, ◌∙◌, arith}
use Rattle.std.specs.List.{range_with_len}
use Rattle.std.proofs.lemmas.Result.{on_err_weaker, on_ok_weaker}
use Rattle.fan_base.specs.declared.number.ExecId.{ExecId}
use Rattle.query_model.specs.Order.{Asked}
use Rattle.fan_model.specs.Tasks.{Run, front_exec, queue_of, task_run}
use Rattle.fan_parts.specs.Facts.{IsAskOf}
use Rattle.query_tasks.specs.Starting.{runs_for}
use Rattle.run_notes.specs.Told.{run_of_direct}
use Rattle.run_front.proofs.Running.{on_ok, runs_more, runs_of, some_more, told_more, told_some_more}
use Rattle.run_front.proofs.Posting.{posted_begun}
use Rattle.run_front.proofs.late.late_query.Goals as goal

pub prio_at-requires : goal.prio_at-requires
prio_at-requires g c =
    let b = c.requires.begun in (
      b.query.query,
      c.alike_lines_ask_the_same.ensures.at g.N.RunName.asked.lines c.args.front.now.lines.now c.args.query.line b.query.query (record { same = sym c.requires.front.lines.same })
          (c.begun_query_is_asked.ensures.line c.args.place c.args.query.number c.args.query.line c.args.query.documents b),
    )

pub gathering_exec-base-requires-clause-number : goal.gathering_exec-base-requires-clause-number
gathering_exec-base-requires-clause-number g c =
    let one : 1 ≤ c.args.query.number = c.begun_query_is_asked.ensures.from_one c.args.place c.args.query.number c.args.query.line c.args.query.documents c.requires.begun in
    let same : c.number-number.result ≡ c.args.query.number =
    c.number-number.ensures.number ∙ c.numbered_ask-ask.ensures.number_is in
    omega (arith, one, same)

pub returns-clause-direct : goal.returns-clause-direct
returns-clause-direct g c = λ start first within so_far.
    let asked = g.N.RunName.asked in
    let b = c.requires.begun in
    let ask = c.numbered_ask-ask.result in
    let shards = c.args.front.now.shards in
    let exec : ExecId = record { 0 = c.args.front.now.bases + 2 } in
    let is_ask : IsAskOf asked ask.number ask.asks ask.before = c.number-number.ensures.is_ask in
    let here : ask.number ≡ c.args.query.number = c.numbered_ask-ask.ensures.number_is in
    let same : is_ask.query ≡ b.query =
    c.begun_query_is_asked.ensures.same c.args.place c.args.query.number c.args.query.line c.args.query.documents b ask is_ask here in
    let prio : c.prio_at.result ≡ b.query.query.prio =
    c.prio_at.ensures b.query.query
    (c.alike_lines_ask_the_same.ensures.at asked.lines c.args.front.now.lines.now c.args.query.line b.query.query (record { same = sym c.requires.front.lines.same })
    (c.begun_query_is_asked.ensures.line c.args.place c.args.query.number c.args.query.line c.args.query.documents b)) in
    let queue : c.queue_number-queue.result ≡ queue_of is_ask.query.query.prio =
    c.queue_number-queue.ensures ∙ (ap queue_of prio ∙ ap (λ (q : Asked). queue_of q.query.prio) (sym same)) in
    let on_front : exec ≡ front_exec asked.bases = ap (λ (n : ℕ). front_exec n) c.requires.front.bases in
    let runs : runs_for asked ask c.queue_number-queue.result exec shards
    ≡ map (task_run asked.lines asked.shards (front_exec asked.bases) b.query) (range_with_len 0 asked.shards) =
    ap (λ (k : ℕ). runs_for asked ask k exec shards) queue
    ∙ (c.tasks_are_runs.ensures.ran_here asked ask is_ask exec shards
    ∙ (ap (λ (q : Asked). map (task_run asked.lines asked.shards exec q) (range_with_len 0 shards)) same
    ∙ (ap (λ (x : ExecId). map (task_run asked.lines asked.shards x b.query) (range_with_len 0 shards)) on_front
    ∙ ap (λ (n : ℕ). map (task_run asked.lines asked.shards (front_exec asked.bases) b.query) (range_with_len 0 n)) c.requires.front.shards))) in
    on_ok_weaker c.run_tasks_here.result (λ has down.
    runs_more asked (front_exec asked.bases) start c.args.place b.query first (map run_of_direct c.args.direct.now) _
    (c.place_by_place.ensures.begun asked.lines start c.args.place b.query b.comes within)
    (has down ∙ ap (λ (l : List Run). map run_of_direct c.args.direct.now ++ l) runs) so_far) c.run_tasks_here.ensures.direct

pub returns-clause-some : goal.returns-clause-some
returns-clause-some g c = λ start first within so_far.
    let asked = g.N.RunName.asked in
    let b = c.requires.begun in
    let ask = c.numbered_ask-ask.result in
    let exec : ExecId = record { 0 = c.args.front.now.bases + 2 } in
    let is_ask : IsAskOf asked ask.number ask.asks ask.before = c.number-number.ensures.is_ask in
    let here : ask.number ≡ c.args.query.number = c.numbered_ask-ask.ensures.number_is in
    let same : is_ask.query ≡ b.query =
    c.begun_query_is_asked.ensures.same c.args.place c.args.query.number c.args.query.line c.args.query.documents b ask is_ask here in
    let prio : c.prio_at.result ≡ b.query.query.prio =
    c.prio_at.ensures b.query.query
    (c.alike_lines_ask_the_same.ensures.at asked.lines c.args.front.now.lines.now c.args.query.line b.query.query (record { same = sym c.requires.front.lines.same })
    (c.begun_query_is_asked.ensures.line c.args.place c.args.query.number c.args.query.line c.args.query.documents b)) in
    let queue : c.queue_number-queue.result ≡ queue_of is_ask.query.query.prio =
    c.queue_number-queue.ensures ∙ (ap queue_of prio ∙ ap (λ (q : Asked). queue_of q.query.prio) (sym same)) in
    let on_front : exec ≡ front_exec asked.bases = ap (λ (n : ℕ). front_exec n) c.requires.front.bases in
    on_err_weaker c.run_tasks_here.result (λ fails down.
    let has = fails down in
    let runs : runs_for asked ask c.queue_number-queue.result exec has.count
    ≡ map (task_run asked.lines asked.shards (front_exec asked.bases) b.query) (range_with_len 0 has.count) =
    ap (λ (k : ℕ). runs_for asked ask k exec has.count) queue
    ∙ (c.tasks_are_runs.ensures.ran_here asked ask is_ask exec has.count
    ∙ (ap (λ (q : Asked). map (task_run asked.lines asked.shards exec q) (range_with_len 0 has.count)) same
    ∙ ap (λ (x : ExecId). map (task_run asked.lines asked.shards x b.query) (range_with_len 0 has.count)) on_front)) in
    let few : has.count ≤ asked.shards = let shards : c.args.front.now.shards ≡ asked.shards = c.requires.front.shards in omega (arith, has.within, shards) in
    some_more asked (front_exec asked.bases) start c.args.place has.count b.query first (map run_of_direct c.args.direct.now) _
    (c.place_by_place.ensures.begun asked.lines start c.args.place b.query b.comes within) few
    (has.ran ∙ ap (λ (l : List Run). map run_of_direct c.args.direct.now ++ l) runs) so_far) c.run_tasks_here.ensures.some

pub returns-clause-told : goal.returns-clause-told
returns-clause-told g c = λ start first within so_far.
    let asked = g.N.RunName.asked in
    let b = c.requires.begun in
    let ask = c.numbered_ask-ask.result in
    let exec : ExecId = record { 0 = c.args.front.now.bases + 2 } in
    let is_ask : IsAskOf asked ask.number ask.asks ask.before = c.number-number.ensures.is_ask in
    let here : ask.number ≡ c.args.query.number = c.numbered_ask-ask.ensures.number_is in
    let same : is_ask.query ≡ b.query =
    c.begun_query_is_asked.ensures.same c.args.place c.args.query.number c.args.query.line c.args.query.documents b ask is_ask here in
    let prio : c.prio_at.result ≡ b.query.query.prio =
    c.prio_at.ensures b.query.query
    (c.alike_lines_ask_the_same.ensures.at asked.lines c.args.front.now.lines.now c.args.query.line b.query.query (record { same = sym c.requires.front.lines.same })
    (c.begun_query_is_asked.ensures.line c.args.place c.args.query.number c.args.query.line c.args.query.documents b)) in
    let queue : c.queue_number-queue.result ≡ queue_of is_ask.query.query.prio =
    c.queue_number-queue.ensures ∙ (ap queue_of prio ∙ ap (λ (q : Asked). queue_of q.query.prio) (sym same)) in
    let on_front : exec ≡ front_exec asked.bases = ap (λ (n : ℕ). front_exec n) c.requires.front.bases in
    let runs : (n : ℕ) → runs_for asked ask c.queue_number-queue.result exec n ≡ map (task_run asked.lines asked.shards (front_exec asked.bases) b.query) (range_with_len 0 n) = λ n.
    ap (λ (k : ℕ). runs_for asked ask k exec n) queue
    ∙ (c.tasks_are_runs.ensures.ran_here asked ask is_ask exec n
    ∙ (ap (λ (q : Asked). map (task_run asked.lines asked.shards exec q) (range_with_len 0 n)) same
    ∙ ap (λ (x : ExecId). map (task_run asked.lines asked.shards x b.query) (range_with_len 0 n)) on_front)) in
    let shards : ℕ = c.args.front.now.shards in
    let all : runs_for asked ask c.queue_number-queue.result exec shards ≡ runs_of asked (front_exec asked.bases) b.query =
    runs shards ∙ ap (λ (n : ℕ). map (task_run asked.lines asked.shards (front_exec asked.bases) b.query) (range_with_len 0 n)) c.requires.front.shards in
    on_ok_weaker c.run_tasks_here.result (λ told.
    told_more asked (front_exec asked.bases) start c.args.place b.query first c.args.direct.now c.run_tasks_here.new.direct (runs_for asked ask c.queue_number-queue.result exec shards)
    (c.place_by_place.ensures.begun asked.lines start c.args.place b.query b.comes within) all told so_far) c.run_tasks_here.ensures.told

pub returns-clause-told_some : goal.returns-clause-told_some
returns-clause-told_some g c = λ start first within so_far.
    let asked = g.N.RunName.asked in
    let b = c.requires.begun in
    let ask = c.numbered_ask-ask.result in
    let exec : ExecId = record { 0 = c.args.front.now.bases + 2 } in
    let is_ask : IsAskOf asked ask.number ask.asks ask.before = c.number-number.ensures.is_ask in
    let here : ask.number ≡ c.args.query.number = c.numbered_ask-ask.ensures.number_is in
    let same : is_ask.query ≡ b.query =
    c.begun_query_is_asked.ensures.same c.args.place c.args.query.number c.args.query.line c.args.query.documents b ask is_ask here in
    let prio : c.prio_at.result ≡ b.query.query.prio =
    c.prio_at.ensures b.query.query
    (c.alike_lines_ask_the_same.ensures.at asked.lines c.args.front.now.lines.now c.args.query.line b.query.query (record { same = sym c.requires.front.lines.same })
    (c.begun_query_is_asked.ensures.line c.args.place c.args.query.number c.args.query.line c.args.query.documents b)) in
    let queue : c.queue_number-queue.result ≡ queue_of is_ask.query.query.prio =
    c.queue_number-queue.ensures ∙ (ap queue_of prio ∙ ap (λ (q : Asked). queue_of q.query.prio) (sym same)) in
    let on_front : exec ≡ front_exec asked.bases = ap (λ (n : ℕ). front_exec n) c.requires.front.bases in
    let runs : (n : ℕ) → runs_for asked ask c.queue_number-queue.result exec n ≡ map (task_run asked.lines asked.shards (front_exec asked.bases) b.query) (range_with_len 0 n) = λ n.
    ap (λ (k : ℕ). runs_for asked ask k exec n) queue
    ∙ (c.tasks_are_runs.ensures.ran_here asked ask is_ask exec n
    ∙ (ap (λ (q : Asked). map (task_run asked.lines asked.shards exec q) (range_with_len 0 n)) same
    ∙ ap (λ (x : ExecId). map (task_run asked.lines asked.shards x b.query) (range_with_len 0 n)) on_front)) in
    on_err_weaker c.run_tasks_here.result (λ has.
    let few : has.count ≤ asked.shards = let shards : c.args.front.now.shards ≡ asked.shards = c.requires.front.shards in omega (arith, has.within, shards) in
    told_some_more asked (front_exec asked.bases) start c.args.place has.count b.query first c.args.direct.now c.run_tasks_here.new.direct (runs_for asked ask c.queue_number-queue.result exec has.count)
    (c.place_by_place.ensures.begun asked.lines start c.args.place b.query b.comes within) few (runs has.count) has.told so_far) c.run_tasks_here.ensures.told_some

pub returns-clause-posted : goal.returns-clause-posted
returns-clause-posted g c = λ first so_far.
    let asked = g.N.RunName.asked in
    let b = c.requires.begun in
    on_ok c.run_tasks_here.result
    (posted_begun asked c.args.place b.query first c.args.front.now.printer c.args.front.now.printer b.comes.at
    refl so_far)
