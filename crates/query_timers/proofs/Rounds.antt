-- Ticks one after another, and whole rounds.
use Rattle.std.proofs.Common.{◌≡◌, ℕ, suc, ◌+◌, ◌<◌, ◌≤◌, List, [], ◌∷◌, ◌++◌, length, Bool, true, false, ◌&&◌, ◌||◌, not, cond, nat_lt, nat_le, refl, sym, ap, ◌∙◌, subst, arith, map, filter, append-nil, append_assoc}
use Rattle.std.specs.Prelude.{◌==◌}
use Rattle.std.specs.List.{AllByRecursion}
use Rattle.std.proofs.lemmas.Bool.Decides.{nat_tests}
use Rattle.std.proofs.lemmas.Simd.{map-map}
use Rattle.std.proofs.lemmas.Bool.{eqb-true}
use Rattle.fan_base.specs.declared.number.ExecId.{ExecId}
use Rattle.query_model.specs.Sorting.{put_by, sorted_by}
use Rattle.query_model.proofs.ListLaws.{all-append, all-filter, all-implies, all-passed, filter-filter, filter-map}
use Rattle.query_model.proofs.SortedLists.{all-sorted_by, put-behind, put-front}
use Rattle.tick_wheel.specs.declared.timer.Timer.{Timer}
use Rattle.tick_wheel.specs.TimerList.{TimerList, due_at, due_later, items_of}
use Rattle.event_base.specs.declared.round.Round.{Round}
use Rattle.event_base.specs.declared.round.RoundMemory.{RoundMemory}
use Rattle.event_base.specs.Seen.{AgendaSeen, BaseSeen, settled}
use Rattle.event_base.specs.Turns.{Place, Turn, LeavesAgenda, TakesBefore, TakesLoop}
use Rattle.event_base.specs.Rounds.{Phases, IsCutRound, IsTick, IsWholeRound, RunsUpToTicks, TicksThrough, due_next, in_phase, ticked}
use Rattle.query_timers.specs.declared.due.DueQuery.{DueQuery}
use Rattle.query_timers.specs.declared.query.DelayedQuery.{DelayedQuery}
use Rattle.query_timers.specs.Firing.{AreTimersOf, Ascend, Fires, head_of, job_of, timer_of}
use Rattle.query_timers.specs.Seen.{WaitersSeen, due_first, is_due_by}
use Rattle.query_timers.proofs.Firings.{IsQuiet, Lasts, LeavesTimers, above_all, after_tick, is_due_at, quiet_moved, quiet_turns, run_all}
use Rattle.query_timers.proofs.Lists.{all-both, filter-none, filter-swap, filter-whole}

-- numbers that ascend ascend also where some are left out
ascend-lower : (b c : ℕ) (queries : List DelayedQuery) → b ≤ c → Ascend c queries → Ascend b queries
ascend-lower b c [] le h = tt
ascend-lower b c (x ∷ queries) le h = (omega (arith, h.0), h.1)

pub ascend-filter : (p : DelayedQuery → Bool) (b : ℕ) (queries : List DelayedQuery) → Ascend b queries → Ascend b (filter p queries)
ascend-filter p b [] h = tt
ascend-filter p b (x ∷ queries) h = by (p x) (ascend-filter p x.number queries h.1)
  where
    by : (c : Bool) → Ascend x.number (filter p queries) → Ascend b (cond c (x ∷ filter p queries) (filter p queries))
    by true rest = (h.0, rest)
    by false rest = ascend-lower b x.number (filter p queries) (omega (arith, h.0)) rest

-- those that are due first come first

not_before : (d e n m : ℕ) → e ≡ d → m < n → (nat_lt d e || (d == e && nat_lt n m)) ≡ false
not_before d e n m same lt = grind (arith, nat_tests)

later_not_before : (d e n m : ℕ) → e < d → (nat_lt d e || (d == e && nat_lt n m)) ≡ false
later_not_before d e n m lt = grind (arith, nat_tests)

earlier_before : (d e n m : ℕ) → d < e → (nat_lt d e || (d == e && nat_lt n m)) ≡ true
earlier_before d e n m lt = grind (arith, nat_tests)

later_by_test : (d t : ℕ) → t ≤ d → not (d == t) ≡ true → t < d
later_by_test d t le misses = grind (arith, nat_tests)

pub least_first : (t b : ℕ) (queries : List DelayedQuery) → AllByRecursion (λ (q : DelayedQuery). t ≤ q.due) queries → Ascend b queries
    → sorted_by due_first queries ≡ filter (is_due_at t) queries ++ sorted_by due_first (filter (λ q. not (is_due_at t q)) queries)
least_first t b [] from ascend = refl
least_first t b (x ∷ queries) from ascend = by (is_due_at t x) refl (least_first t x.number queries from.1 ascend.1)
  where
    D : List DelayedQuery
    D = filter (is_due_at t) queries

    N : List DelayedQuery
    N = filter (λ q. not (is_due_at t q)) queries

    S : List DelayedQuery
    S = sorted_by due_first N

    due_all : AllByRecursion (λ (q : DelayedQuery). q.due ≡ t) D
    due_all = all-implies (λ q. is_due_at t q ≡ true) (λ (q : DelayedQuery). q.due ≡ t) (λ q h. eqb-true q.due t h) D (all-passed (is_due_at t) queries)

    late_all : AllByRecursion (λ (q : DelayedQuery). t < q.due) S
    late_all =
        all-sorted_by (λ (q : DelayedQuery). t < q.due) due_first N
        (all-both (λ (q : DelayedQuery). t ≤ q.due) (λ q. not (is_due_at t q) ≡ true) (λ (q : DelayedQuery). t < q.due) (λ q le misses. later_by_test q.due t le misses) N
        (all-filter (λ (q : DelayedQuery). t ≤ q.due) (λ q. not (is_due_at t q)) queries from.1) (all-passed (λ q. not (is_due_at t q)) queries))

    above : AllByRecursion (λ (q : DelayedQuery). x.number < q.number) D
    above = all-filter (λ (q : DelayedQuery). x.number < q.number) (is_due_at t) queries (above_all x.number queries ascend.1)

    by : (c : Bool) → is_due_at t x ≡ c → sorted_by due_first queries ≡ D ++ S
        → put_by due_first x (sorted_by due_first queries) ≡ cond c (x ∷ D) D ++ sorted_by due_first (cond (not c) (x ∷ N) N)
    by true is rest =
        let now : x.due ≡ t = eqb-true x.due t is in
        ap (put_by due_first x) rest
        ∙ put-front due_first x [] (D ++ S)
        (all-append (λ (z : DelayedQuery). due_first z x ≡ false) D S
        (all-both (λ (z : DelayedQuery). z.due ≡ t) (λ (z : DelayedQuery). x.number < z.number) (λ (z : DelayedQuery). due_first z x ≡ false)
        (λ z same lt. not_before z.due x.due z.number x.number (now ∙ sym same) lt) D due_all above)
        (all-implies (λ (z : DelayedQuery). t < z.due) (λ (z : DelayedQuery). due_first z x ≡ false) (λ z lt. later_not_before z.due x.due z.number x.number (omega arith)) S late_all))
    by false is rest =
        let later : t < x.due = later_by_test x.due t from.0 (ap not is) in
        ap (put_by due_first x) rest
        ∙ put-behind due_first x D S
        (all-implies (λ (z : DelayedQuery). z.due ≡ t) (λ (z : DelayedQuery). due_first z x ≡ true) (λ z same. earlier_before z.due x.due z.number x.number (omega arith)) D due_all)

-- one tick: those that are due at it fire, and the others wait on
tick_fires : (p q : Place WaitersSeen DueQuery) (turns : List (Turn DueQuery)) → AreTimersOf p.1 p.0 → IsTick head_of Fires p turns q
    → (q.0 ≡ after_tick (p.1.wheel.tick + 1) [] p.0.waiting p.0) × (q.1 ≡ ticked p.1)
tick_fires p q turns are is =
    let t : ℕ = p.1.wheel.tick + 1 in
    let ws : List DelayedQuery = p.0.waiting in
    let exec : ExecId = p.1.exec in
    let jobs : due_next p.1 ≡ map (job_of exec) (filter (is_due_at t) ws) =
    ap (λ (l : List (Timer DueQuery)). items_of (due_at t l)) are.timers
    ∙ (ap (λ (l : List (Timer DueQuery)). items_of l) (filter-map (λ (x : Timer DueQuery). x.due == t) (timer_of exec) ws)
    ∙ map-map (λ (x : Timer DueQuery). x.item) (timer_of exec) (filter (is_due_at t) ws)) in
    run_all exec t 0 ws (ticked p.1) q refl are.ascend [] p.0 turns refl tt (is.each ∙ jobs) is.ran.through

-- the timers are those that wait, as before
timers_ticked : (p : Place WaitersSeen DueQuery) → AreTimersOf p.1 p.0 → AreTimersOf (ticked p.1) (after_tick (p.1.wheel.tick + 1) [] p.0.waiting p.0)
timers_ticked p are =
    let t : ℕ = p.1.wheel.tick + 1 in
    let ws : List DelayedQuery = p.0.waiting in
    let misses : DelayedQuery → Bool = λ q. not (is_due_at t q) in
    record {
      timers = ap (λ (l : List (Timer DueQuery)). due_later t l) are.timers ∙ filter-map (λ (x : Timer DueQuery). not (x.due == t)) (timer_of p.1.exec) ws;
      later = all-both (λ (q : DelayedQuery). p.1.wheel.tick < q.due) (λ q. misses q ≡ true) (λ (q : DelayedQuery). t < q.due)
          (λ q lt e. later_by_test q.due t (omega arith) e) (filter misses ws)
          (all-filter (λ (q : DelayedQuery). p.1.wheel.tick < q.due) misses ws are.later) (all-passed misses ws);
      ascend = ascend-filter misses 0 ws are.ascend;
      few = all-filter (λ (q : DelayedQuery). q.number ≤ p.0.asked) misses ws are.few;
    }

-- so many ticks
pub record Ticked (ticks : ℕ) (p q : Place WaitersSeen DueQuery) : Type 0 where
  pub are : AreTimersOf q.1 q.0
  pub tick : q.1.wheel.tick ≡ p.1.wheel.tick + ticks
  pub asked : q.0.asked ≡ p.0.asked
  pub fired : q.0.fired ≡ p.0.fired ++ sorted_by due_first (filter (is_due_by (p.1.wheel.tick + ticks)) p.0.waiting)
  pub waiting : q.0.waiting ≡ filter (λ x. not (is_due_by (p.1.wheel.tick + ticks) x)) p.0.waiting

not_yet : (now due : ℕ) → now < due → nat_le due (now + 0) ≡ false
not_yet now due lt = grind (arith, nat_tests)

no_ticks : (p : Place WaitersSeen DueQuery) → AreTimersOf p.1 p.0 → Ticked 0 p p
no_ticks p are =
    let now : ℕ = p.1.wheel.tick + 0 in
    let none : AllByRecursion (λ (q : DelayedQuery). is_due_by now q ≡ false) p.0.waiting =
    all-implies (λ (q : DelayedQuery). p.1.wheel.tick < q.due) (λ (q : DelayedQuery). is_due_by now q ≡ false) (λ q lt. not_yet p.1.wheel.tick q.due lt) p.0.waiting are.later in
    record {
      are = are;
      tick = omega arith;
      asked = refl;
      fired = sym (ap (λ (l : List DelayedQuery). p.0.fired ++ sorted_by due_first l) (filter-none (is_due_by now) p.0.waiting none) ∙ append-nil p.0.fired);
      waiting = sym (filter-whole (is_due_by now) p.0.waiting none);
    }

at_by : (due t later : ℕ) → t ≤ later → (due == t) ≡ true → nat_le due later ≡ true
at_by due t later le e = grind (arith, nat_tests)

not_by : (due t later : ℕ) → t ≤ later → not (nat_le due later) ≡ true → not (due == t) ≡ true
not_by due t later le e = grind (arith, nat_tests)

-- one tick, and then others
one_tick_more : (n : ℕ) (p q : Place WaitersSeen DueQuery) → AreTimersOf p.1 p.0
    → Ticked n (after_tick (p.1.wheel.tick + 1) [] p.0.waiting p.0, ticked p.1) q → Ticked (suc n) p q
one_tick_more n p q are rest =
    let t : ℕ = p.1.wheel.tick + 1 in
    let ws : List DelayedQuery = p.0.waiting in
    let last : ℕ = t + n in
    let end : t + n ≡ p.1.wheel.tick + suc n = omega arith in
    let le : t ≤ last = omega arith in
    let by : DelayedQuery → Bool = is_due_by last in
    let D : List DelayedQuery = filter (is_due_at t) ws in
    let N : List DelayedQuery = filter (λ x. not (is_due_at t x)) ws in
    let from : AllByRecursion (λ (x : DelayedQuery). t ≤ x.due) (filter by ws) =
    all-filter (λ (x : DelayedQuery). t ≤ x.due) by ws
    (all-implies (λ (x : DelayedQuery). p.1.wheel.tick < x.due) (λ (x : DelayedQuery). t ≤ x.due) (λ x lt. omega arith) ws are.later) in
    let split : sorted_by due_first (filter by ws) ≡ D ++ sorted_by due_first (filter by N) =
    least_first t 0 (filter by ws) from (ascend-filter by 0 ws are.ascend)
    ∙ (ap (λ (l : List DelayedQuery). l ++ sorted_by due_first (filter (λ x. not (is_due_at t x)) (filter by ws))) (filter-filter (is_due_at t) by (λ x e. at_by x.due t last le e) ws)
    ∙ ap (λ (l : List DelayedQuery). D ++ sorted_by due_first l) (filter-swap (λ x. not (is_due_at t x)) by ws)) in
    record {
      are = rest.are;
      tick = rest.tick ∙ end;
      asked = rest.asked;
      fired = rest.fired
          ∙ (append_assoc p.0.fired D (sorted_by due_first (filter by N))
          ∙ (ap (λ (l : List DelayedQuery). p.0.fired ++ l) (sym split)
          ∙ ap (λ (m : ℕ). p.0.fired ++ sorted_by due_first (filter (is_due_by m) ws)) end));
      waiting = rest.waiting
          ∙ (filter-filter (λ x. not (by x)) (λ x. not (is_due_at t x)) (λ x e. not_by x.due t last le e) ws
          ∙ ap (λ (m : ℕ). filter (λ x. not (is_due_by m x)) ws) end);
    }

ticks_fire : (p q : Place WaitersSeen DueQuery) (made : List (List (Turn DueQuery))) → AreTimersOf p.1 p.0 → TicksThrough head_of Fires p made q → Ticked (length made) p q
ticks_fire p q [] are through = subst (λ (u : Place WaitersSeen DueQuery). Ticked 0 p u) through (no_ticks p are)
ticks_fire p q (turns ∷ made) are through =
    let m = through.0 in
    let one = tick_fires p m turns are through.1 in
    let w : WaitersSeen = after_tick (p.1.wheel.tick + 1) [] p.0.waiting p.0 in
    let a : AgendaSeen DueQuery = ticked p.1 in
    let place : m ≡ (w, a) =
    ap (λ (v : WaitersSeen). let u : Place WaitersSeen DueQuery = (v, m.1) in u) one.0 ∙ ap (λ (b : AgendaSeen DueQuery). let u : Place WaitersSeen DueQuery = (w, b) in u) one.1 in
    one_tick_more (length made) p q are
    (ticks_fire (w, a) q made (timers_ticked p are) (subst (λ (u : Place WaitersSeen DueQuery). TicksThrough head_of Fires u made q) place through.2))

-- whole rounds

-- what is quiet keeps the timers of those that wait
timers_quiet : (p q : Place WaitersSeen DueQuery) → IsQuiet p q → AreTimersOf p.1 p.0 → AreTimersOf q.1 q.0
timers_quiet p q is are =
    let on : AreTimersOf q.1 p.0 = record {
      timers = ap (λ (l : TimerList DueQuery). l.timers) is.1 ∙ (are.timers ∙ ap (λ (e : ExecId). map (timer_of e) p.0.waiting) (sym is.2));
      later = subst (λ (l : TimerList DueQuery). Lasts l.tick p.0.waiting) (sym is.1) are.later;
      ascend = are.ascend;
      few = are.few;
    } in
    subst (λ (w : WaitersSeen). AreTimersOf q.1 w) (sym is.0) on

before_leaves : LeavesTimers TakesBefore
before_leaves job a b is = (ap (λ (x : AgendaSeen DueQuery). x.wheel) (sym is), ap (λ (x : AgendaSeen DueQuery). x.exec) (sym is))

leaving_leaves : LeavesTimers LeavesAgenda
leaving_leaves job a b is = (ap (λ (x : AgendaSeen DueQuery). x.wheel) is, ap (λ (x : AgendaSeen DueQuery). x.exec) is)

loop_leaves : LeavesTimers TakesLoop
loop_leaves job a b is = (ap (λ (x : AgendaSeen DueQuery). x.wheel) (sym is), ap (λ (x : AgendaSeen DueQuery). x.exec) (sym is))

quiet_join : (p m q : Place WaitersSeen DueQuery) → IsQuiet p m → IsQuiet m q → IsQuiet p q
quiet_join p m q one two = (two.0 ∙ one.0, two.1 ∙ one.1, two.2 ∙ one.2)

-- quiet, then ticks
ticked_behind : (n : ℕ) (p m q : Place WaitersSeen DueQuery) → IsQuiet p m → Ticked n m q → Ticked n p q
ticked_behind n p m q is t = record {
  are = t.are;
  tick = t.tick ∙ ap (λ (l : TimerList DueQuery). l.tick + n) is.1;
  asked = t.asked ∙ ap (λ (w : WaitersSeen). w.asked) is.0;
  fired = t.fired
      ∙ (ap (λ (w : WaitersSeen). w.fired ++ sorted_by due_first (filter (is_due_by (m.1.wheel.tick + n)) w.waiting)) is.0
      ∙ ap (λ (l : TimerList DueQuery). p.0.fired ++ sorted_by due_first (filter (is_due_by (l.tick + n)) p.0.waiting)) is.1);
  waiting = t.waiting
      ∙ (ap (λ (w : WaitersSeen). filter (λ x. not (is_due_by (m.1.wheel.tick + n) x)) w.waiting) is.0
      ∙ ap (λ (l : TimerList DueQuery). filter (λ x. not (is_due_by (l.tick + n) x)) p.0.waiting) is.1);
}

-- ticks, then quiet
ticked_ahead : (n : ℕ) (p m q : Place WaitersSeen DueQuery) → Ticked n p m → IsQuiet m q → Ticked n p q
ticked_ahead n p m q t is = record {
  are = timers_quiet m q is t.are;
  tick = ap (λ (l : TimerList DueQuery). l.tick) is.1 ∙ t.tick;
  asked = ap (λ (w : WaitersSeen). w.asked) is.0 ∙ t.asked;
  fired = ap (λ (w : WaitersSeen). w.fired) is.0 ∙ t.fired;
  waiting = ap (λ (w : WaitersSeen). w.waiting) is.0 ∙ t.waiting;
}

up_to_ticks : (w : WaitersSeen) (a : AgendaSeen DueQuery) (did : Phases DueQuery) (q : Place WaitersSeen DueQuery) → AreTimersOf a w
    → RunsUpToTicks head_of Fires (w, a) did q → Ticked (length did.ticks) (w, a) q
up_to_ticks w a did q are up =
    let start : Place WaitersSeen DueQuery = (w, settled a) in
    let first = quiet_turns TakesBefore before_leaves start up.after_before did.before are.later up.before.ran.through in
    let later = quiet_moved start up.after_before first are.later in
    let second = quiet_turns LeavesAgenda leaving_leaves up.after_before up.after_messages did.messages later up.messages.ran.through in
    let both = quiet_join start up.after_before up.after_messages first second in
    let quiet : IsQuiet (w, a) up.after_messages = (both.0, both.1, both.2) in
    ticked_behind (length did.ticks) (w, a) up.after_messages q quiet
    (ticks_fire up.after_messages q did.ticks (timers_quiet (w, a) up.after_messages quiet are) up.ticks.through)

pub whole_round : (ticks : ℕ) (w v : WaitersSeen) (old new : BaseSeen DueQuery) (round : Round) (did : Phases DueQuery) → AreTimersOf old.agenda w
    → IsWholeRound head_of Fires ticks w old round did v new → Ticked ticks (w, old.agenda) (v, new.agenda)
whole_round ticks w v old new round did are is =
    let m = is.after_ticks in
    let made = up_to_ticks w old.agenda did m are is.up_to_ticks in
    let begun : Place WaitersSeen DueQuery = (m.0, in_phase m.1) in
    let last : Place WaitersSeen DueQuery = (v, is.loops.end) in
    let ran = quiet_turns TakesLoop loop_leaves begun last did.loops made.are.later is.loops.ran.through in
    let quiet : IsQuiet m (v, new.agenda) =
    (ran.0, ap (λ (x : AgendaSeen DueQuery). x.wheel) is.loops.ended ∙ ran.1, ap (λ (x : AgendaSeen DueQuery). x.exec) is.loops.ended ∙ ran.2) in
    subst (λ (n : ℕ). Ticked n (w, old.agenda) (v, new.agenda)) is.each_tick (ticked_ahead (length did.ticks) (w, old.agenda) m (v, new.agenda) made quiet)

pub cut_round : (ticks : ℕ) (w v : WaitersSeen) (old new : BaseSeen DueQuery) (fault : RoundMemory) (did : Phases DueQuery) → AreTimersOf old.agenda w
    → IsCutRound head_of Fires ticks w old fault did v new → AreTimersOf new.agenda v
cut_round ticks w v old new fault did are is = (up_to_ticks w old.agenda did (v, new.agenda) are is.up_to_ticks).are
