-- What one timer fires, and what the timers of one tick fire.
use Rattle.std.proofs.Common.{◌≡◌, ℕ, ◌<◌, List, [], ◌∷◌, ◌++◌, Bool, true, false, not, cond, refl, sym, ap, ◌∙◌, subst, arith, map, filter, append-nil, append_assoc}
use Rattle.std.specs.Prelude.{◌==◌}
use Rattle.std.specs.List.{AllByRecursion}
use Rattle.std.proofs.lemmas.Bool.Decides.{nat_tests}
use Rattle.std.proofs.lemmas.List.Elements.{filter-append}
use Rattle.std.proofs.lemmas.Bool.{and_left, and_right}
use Rattle.fan_base.specs.declared.number.ExecId.{ExecId}
use Rattle.query_model.proofs.ListLaws.{all-append, all-implies}
use Rattle.event_base.specs.Seen.{AgendaSeen}
use Rattle.event_base.specs.Turns.{Place, Turn, LeavesAgenda, IsTurn, TurnsThrough, jobs_of}
use Rattle.tick_wheel.specs.TimerList.{TimerList}
use Rattle.query_timers.specs.declared.due.DueQuery.{DueQuery}
use Rattle.query_timers.specs.declared.query.DelayedQuery.{DelayedQuery}
use Rattle.query_timers.specs.Firing.{Ascend, Fires, fired_at, fires_at, head_of, job_of}
use Rattle.query_timers.specs.Seen.{WaitersSeen}
use Rattle.query_timers.proofs.Lists.{filter-none, filter-whole}
use Rattle.query_timers.proofs.Numbers.{below_not}

-- due exactly at a tick
abbrev pub is_due_at : ℕ → DelayedQuery → Bool
is_due_at tick query = query.due == tick

abbrev pub Lasts : ℕ → List DelayedQuery → Type 0
Lasts tick queries = AllByRecursion (λ (q : DelayedQuery). tick < q.due) queries

-- a job that comes where nobody is due changes nothing
pub quiet : (number tick : ℕ) (w : WaitersSeen) → Lasts tick w.waiting → fired_at number tick w ≡ w
quiet number tick w later =
    let none : AllByRecursion (λ (q : DelayedQuery). fires_at number tick q ≡ false) w.waiting =
    all-implies (λ (q : DelayedQuery). tick < q.due) (λ (q : DelayedQuery). fires_at number tick q ≡ false)
    (λ q lt. and_right (q.number == number) (q.due == tick) (below_not tick q.due lt)) w.waiting later in
    ap (λ (l : List DelayedQuery). record w { waiting = l; fired = w.fired ++ filter (fires_at number tick) w.waiting }) (filter-whole (fires_at number tick) w.waiting none)
    ∙ (ap (λ (l : List DelayedQuery). record w { fired = w.fired ++ l }) (filter-none (fires_at number tick) w.waiting none)
    ∙ ap (λ (l : List DelayedQuery). record w { fired = l }) (append-nil w.fired))

-- a step of the base's own that leaves the timers and the executor alone
abbrev pub LeavesTimers : (DueQuery → AgendaSeen DueQuery → AgendaSeen DueQuery → Type 0) → Type 0
LeavesTimers step = (job : DueQuery) (a b : AgendaSeen DueQuery) → step job a b → (b.wheel ≡ a.wheel) × (b.exec ≡ a.exec)

-- nothing has changed but callbacks
abbrev pub IsQuiet : Place WaitersSeen DueQuery → Place WaitersSeen DueQuery → Type 0
IsQuiet p q = (q.0 ≡ p.0) × (q.1.wheel ≡ p.1.wheel) × (q.1.exec ≡ p.1.exec)

quiet_turn : (step : DueQuery → AgendaSeen DueQuery → AgendaSeen DueQuery → Type 0) → LeavesTimers step
    → (p q : Place WaitersSeen DueQuery) (turn : Turn DueQuery) → Lasts p.1.wheel.tick p.0.waiting → IsTurn step head_of Fires p turn q → IsQuiet p q
quiet_turn step leaves p q turn later is =
    let kept = leaves turn.job p.1 is.between is.stepped in
    let at : fired_at turn.job.number is.between.wheel.tick p.0 ≡ fired_at turn.job.number p.1.wheel.tick p.0 =
    ap (λ (l : TimerList DueQuery). fired_at turn.job.number l.tick p.0) kept.0 in (
      is.ran.world ∙ (at ∙ quiet turn.job.number p.1.wheel.tick p.0 later),
      ap (λ (a : AgendaSeen DueQuery). a.wheel) is.ran.agenda ∙ kept.0,
      ap (λ (a : AgendaSeen DueQuery). a.exec) is.ran.agenda ∙ kept.1,
    )

pub quiet_moved : (p q : Place WaitersSeen DueQuery) → IsQuiet p q → Lasts p.1.wheel.tick p.0.waiting → Lasts q.1.wheel.tick q.0.waiting
quiet_moved p q is later =
    subst (λ (w : WaitersSeen). Lasts q.1.wheel.tick w.waiting) (sym is.0) (subst (λ (l : TimerList DueQuery). Lasts l.tick p.0.waiting) (sym is.1) later)

pub quiet_turns : (step : DueQuery → AgendaSeen DueQuery → AgendaSeen DueQuery → Type 0) → LeavesTimers step
    → (p q : Place WaitersSeen DueQuery) (turns : List (Turn DueQuery)) → Lasts p.1.wheel.tick p.0.waiting → TurnsThrough step head_of Fires p turns q → IsQuiet p q
quiet_turns step leaves p q [] later through =
    (ap (λ (u : Place WaitersSeen DueQuery). u.0) (sym through), ap (λ (u : Place WaitersSeen DueQuery). u.1.wheel) (sym through), ap (λ (u : Place WaitersSeen DueQuery). u.1.exec) (sym through))
quiet_turns step leaves p q (turn ∷ turns) later through =
    let m = through.0 in
    let one = quiet_turn step leaves p m turn later through.1 in
    let more = quiet_turns step leaves m q turns (quiet_moved p m one later) through.2 in
    (more.0 ∙ one.0, more.1 ∙ one.1, more.2 ∙ one.2)

-- those of a tick

-- the first of those that are due fires
fire_one : (t : ℕ) (P K : List DelayedQuery) (x : DelayedQuery) (w : WaitersSeen)
    → w.waiting ≡ P ++ (x ∷ K) → AllByRecursion (λ q. is_due_at t q ≡ false) P → is_due_at t x ≡ true → AllByRecursion (λ (q : DelayedQuery). x.number < q.number) K
    → fired_at x.number t w ≡ record w { waiting = P ++ K; fired = w.fired ++ x ∷ [] }
fire_one t P K x w is before hits after =
    let p : DelayedQuery → Bool = fires_at x.number t in
    let misses : DelayedQuery → Bool = λ q. not (p q) in
    let one : p x ≡ true = grind (arith, nat_tests, hits) in
    let none_before : AllByRecursion (λ q. p q ≡ false) P =
    all-implies (λ q. is_due_at t q ≡ false) (λ q. p q ≡ false) (λ q h. and_right (q.number == x.number) (q.due == t) h) P before in
    let none_after : AllByRecursion (λ q. p q ≡ false) K =
    all-implies (λ (q : DelayedQuery). x.number < q.number) (λ q. p q ≡ false) (λ q h. and_left (q.number == x.number) (q.due == t) (below_not x.number q.number h)) K after in
    let hit : filter p (x ∷ K) ≡ x ∷ [] =
    ap (λ (b : Bool). cond b (x ∷ filter p K) (filter p K)) one ∙ ap (λ (l : List DelayedQuery). x ∷ l) (filter-none p K none_after) in
    let missed : filter misses (x ∷ K) ≡ K =
    ap (λ (b : Bool). cond (not b) (x ∷ filter misses K) (filter misses K)) one ∙ filter-whole p K none_after in
    let fires : filter p w.waiting ≡ x ∷ [] =
    ap (filter p) is ∙ (filter-append p P (x ∷ K) ∙ (ap (λ (l : List DelayedQuery). l ++ filter p (x ∷ K)) (filter-none p P none_before) ∙ hit)) in
    let stay : filter misses w.waiting ≡ P ++ K =
    ap (filter misses) is ∙ (filter-append misses P (x ∷ K) ∙ (ap (λ (l : List DelayedQuery). l ++ filter misses (x ∷ K)) (filter-whole p P none_before) ∙ ap (λ (l : List DelayedQuery). P ++ l) missed)) in
    ap (λ (l : List DelayedQuery). record w { waiting = l; fired = w.fired ++ filter p w.waiting }) stay
    ∙ ap (λ (l : List DelayedQuery). record w { waiting = P ++ K; fired = w.fired ++ l }) fires

-- what a tick leaves and what it fires
abbrev pub after_tick : ℕ → List DelayedQuery → List DelayedQuery → WaitersSeen → WaitersSeen
after_tick t P K w = record w { waiting = P ++ filter (λ q. not (is_due_at t q)) K; fired = w.fired ++ filter (is_due_at t) K }

-- jobs that run the due ones of K, behind P of whom none is due
abbrev Runs : ExecId → ℕ → List DelayedQuery → AgendaSeen DueQuery → Place WaitersSeen DueQuery → Type 0
Runs exec t K a q = (P : List DelayedQuery) (w : WaitersSeen) (turns : List (Turn DueQuery))
    → w.waiting ≡ P ++ K → AllByRecursion (λ x. is_due_at t x ≡ false) P
    → jobs_of turns ≡ map (job_of exec) (filter (is_due_at t) K)
    → TurnsThrough LeavesAgenda head_of Fires (w, a) turns q
    → (q.0 ≡ after_tick t P K w) × (q.1 ≡ a)

first_job : (turn : Turn DueQuery) (turns : List (Turn DueQuery)) (job : DueQuery) (jobs : List DueQuery) → jobs_of (turn ∷ turns) ≡ job ∷ jobs → turn.job ≡ job
first_job turn turns job jobs e = cc

later_jobs : (turn : Turn DueQuery) (turns : List (Turn DueQuery)) (job : DueQuery) (jobs : List DueQuery) → jobs_of (turn ∷ turns) ≡ job ∷ jobs → jobs_of turns ≡ jobs
later_jobs turn turns job jobs e = cc

pub above_all : (b : ℕ) (K : List DelayedQuery) → Ascend b K → AllByRecursion (λ (q : DelayedQuery). b < q.number) K
above_all b [] h = tt
above_all b (x ∷ K) h = (h.0, all-implies (λ (q : DelayedQuery). x.number < q.number) (λ (q : DelayedQuery). b < q.number) (λ q k. omega (arith, h.0)) K (above_all x.number K h.1))

run_none : (exec : ExecId) (t : ℕ) (a : AgendaSeen DueQuery) (q : Place WaitersSeen DueQuery) → Runs exec t [] a q
run_none exec t a q P w [] is before jobs through = (
  ap (λ (u : Place WaitersSeen DueQuery). u.0) (sym through)
      ∙ (ap (λ (l : List DelayedQuery). record w { waiting = l }) is ∙ ap (λ (l : List DelayedQuery). record w { waiting = P ++ []; fired = l }) (sym (append-nil w.fired))),
  ap (λ (u : Place WaitersSeen DueQuery). u.1) (sym through),
)
run_none exec t a q P w (turn ∷ turns) is before jobs through = absurd cc

-- the first isn't due
run_on : (exec : ExecId) (t : ℕ) (x : DelayedQuery) (K : List DelayedQuery) (a : AgendaSeen DueQuery) (q : Place WaitersSeen DueQuery)
    → is_due_at t x ≡ false → Runs exec t K a q → Runs exec t (x ∷ K) a q
run_on exec t x K a q misses rest P w turns is before jobs through =
    let D : List DelayedQuery = filter (is_due_at t) K in
    let N : List DelayedQuery = filter (λ y. not (is_due_at t y)) K in
    let same : filter (is_due_at t) (x ∷ K) ≡ D = ap (λ (b : Bool). cond b (x ∷ D) D) misses in
    let left : filter (λ y. not (is_due_at t y)) (x ∷ K) ≡ x ∷ N = ap (λ (b : Bool). cond (not b) (x ∷ N) N) misses in
    let ran = rest (P ++ x ∷ []) w turns (is ∙ sym (append_assoc P (x ∷ []) K)) (all-append (λ y. is_due_at t y ≡ false) P (x ∷ []) before (misses, tt)) (jobs ∙ ap (map (job_of exec)) same) through in (
      ran.0
          ∙ (ap (λ (l : List DelayedQuery). record w { waiting = l; fired = w.fired ++ D }) (append_assoc P (x ∷ []) N)
          ∙ (ap (λ (l : List DelayedQuery). record w { waiting = P ++ l; fired = w.fired ++ D }) (sym left)
          ∙ ap (λ (l : List DelayedQuery). record w { waiting = P ++ filter (λ y. not (is_due_at t y)) (x ∷ K); fired = w.fired ++ l }) (sym same))),
      ran.1,
    )

-- the first is due, and runs first
run_hit : (exec : ExecId) (t : ℕ) (x : DelayedQuery) (K : List DelayedQuery) (a : AgendaSeen DueQuery) (q : Place WaitersSeen DueQuery)
    → a.wheel.tick ≡ t → is_due_at t x ≡ true → AllByRecursion (λ (y : DelayedQuery). x.number < y.number) K → Runs exec t K a q → Runs exec t (x ∷ K) a q
run_hit exec t x K a q now hits after rest P w [] is before jobs through =
    let same : filter (is_due_at t) (x ∷ K) ≡ x ∷ filter (is_due_at t) K = ap (λ (b : Bool). cond b (x ∷ filter (is_due_at t) K) (filter (is_due_at t) K)) hits in
    let bad : [] ≡ map (job_of exec) (x ∷ filter (is_due_at t) K) = jobs ∙ ap (map (job_of exec)) same in
    absurd cc
run_hit exec t x K a q now hits after rest P w (turn ∷ turns) is before jobs through =
    let D : List DelayedQuery = filter (is_due_at t) K in
    let N : List DelayedQuery = filter (λ y. not (is_due_at t y)) K in
    let same : filter (is_due_at t) (x ∷ K) ≡ x ∷ D = ap (λ (b : Bool). cond b (x ∷ D) D) hits in
    let left : filter (λ y. not (is_due_at t y)) (x ∷ K) ≡ N = ap (λ (b : Bool). cond (not b) (x ∷ N) N) hits in
    let all : jobs_of (turn ∷ turns) ≡ job_of exec x ∷ map (job_of exec) D = jobs ∙ ap (map (job_of exec)) same in
    let job = first_job turn turns (job_of exec x) (map (job_of exec) D) all in
    let w1 : WaitersSeen = record w { waiting = P ++ K; fired = w.fired ++ x ∷ [] } in
    let m = through.0 in
    let ran = through.1.ran in
    let number : turn.job.number ≡ x.number = ap (λ (j : DueQuery). j.number) job in
    let tick : through.1.between.wheel.tick ≡ t = ap (λ (b : AgendaSeen DueQuery). b.wheel.tick) through.1.stepped ∙ now in
    let world : m.0 ≡ w1 =
    ran.world ∙ (ap (λ (n : ℕ). fired_at n through.1.between.wheel.tick w) number ∙ (ap (λ (n : ℕ). fired_at x.number n w) tick ∙ fire_one t P K x w is before hits after)) in
    let agenda : m.1 ≡ a = ran.agenda ∙ through.1.stepped in
    let place : m ≡ (w1, a) = ap (λ (v : WaitersSeen). let u : Place WaitersSeen DueQuery = (v, m.1) in u) world ∙ ap (λ (b : AgendaSeen DueQuery). let u : Place WaitersSeen DueQuery = (w1, b) in u) agenda in
    let more = rest P w1 turns refl before (later_jobs turn turns (job_of exec x) (map (job_of exec) D) all) (subst (λ (u : Place WaitersSeen DueQuery). TurnsThrough LeavesAgenda head_of Fires u turns q) place through.2) in (
      more.0
          ∙ (ap (λ (l : List DelayedQuery). record w { waiting = P ++ N; fired = l }) (append_assoc w.fired (x ∷ []) D)
          ∙ (ap (λ (l : List DelayedQuery). record w { waiting = P ++ l; fired = w.fired ++ (x ∷ D) }) (sym left)
          ∙ ap (λ (l : List DelayedQuery). record w { waiting = P ++ filter (λ y. not (is_due_at t y)) (x ∷ K); fired = w.fired ++ l }) (sym same))),
      more.1,
    )

pub run_all : (exec : ExecId) (t b : ℕ) (K : List DelayedQuery) (a : AgendaSeen DueQuery) (q : Place WaitersSeen DueQuery) → a.wheel.tick ≡ t → Ascend b K → Runs exec t K a q
run_all exec t b [] a q now ascend = run_none exec t a q
run_all exec t b (x ∷ K) a q now ascend = by (is_due_at t x) refl (run_all exec t x.number K a q now ascend.1)
  where
    by : (c : Bool) → is_due_at t x ≡ c → Runs exec t K a q → Runs exec t (x ∷ K) a q
    by true is rest = run_hit exec t x K a q now is (above_all x.number K ascend.1) rest
    by false is rest = run_on exec t x K a q is rest
