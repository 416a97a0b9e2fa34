-- The runs of queries that are begun, one query further.
use Rattle.std.proofs.Common.{◌≡◌, ℕ, zero, suc, ◌+◌, List, [], ◌∷◌, ◌++◌, map, take, drop, length, sym, ap, subst, ◌∙◌, append-nil, append_assoc, arith, ◌≤◌, ℤ, w8, refl}
use Rattle.std.specs.List.{range_with_len}
use Rattle.std.specs.Result.{OnOk}
use Rattle.std.specs.Prelude.{Result, Ok, Err}
use Rattle.std.proofs.lemmas.List.{flat_map_more, length-append, map-append}
use Rattle.std.proofs.lemmas.List.Elements.{filter_map-append}
use Rattle.std.proofs.lemmas.Grind.{flat_map-append}
use Rattle.std.proofs.lemmas.List.FromFn.{length-map-range_with_len}
use Rattle.fan_base.specs.declared.number.ExecId.{ExecId}
use mir.Val.{of_z, to_z}
use Rattle.query_model.specs.declared.line.Line.{Line}
use Rattle.query_model.specs.declared.line.Prio.{Prio}
use Rattle.query_model.specs.declared.line.Prio.TheVariants as prio
use Rattle.query_model.specs.Order.{Asked}
use Rattle.fan_model.specs.Comings.{Coming, begun_by, comings_of}
use Rattle.fan_model.specs.Report.{Asking}
use Rattle.fan_model.specs.Tasks.{Run, queue_of, task_run, task_runs}
use Rattle.pool_model.specs.Tasks.{Add}
use Rattle.prio_pool.specs.Adders.{add_on}
use Rattle.prio_pool.specs.Priority.{queue_of as queue_with}
use Rattle.fan_parts.specs.Seen.{AskSeen}
use Rattle.query_tasks.specs.Starting.{adds_for, head_on_pool}
use Rattle.query_tasks.proofs.Loops.{map_map}
use Rattle.prio_pool.specs.Running.{DirectSeen}
use Rattle.run_notes.specs.Told.{TellOf, run_of_add, run_of_direct, unmarked}
use Rattle.run_plan.specs.Turns.{begun_between, begun_in}
use Rattle.run_front.specs.Fronts.{AreRunsTo, AreSomeOf, AreSomeRunsTo, TellRunsTo, TellSomeOf, TellSomeRunsTo}
use Rattle.run_front.specs.Turns.{pool_priority}

-- the runs of one query
abbrev pub runs_of : Asking → ExecId → Asked → List Run
runs_of asked exec query = map (task_run asked.lines asked.shards exec query) (range_with_len 0 asked.shards)

pub runs_none : (asked : Asking) (exec : ExecId) (start : ℕ) (first : List Run) → begun_between asked.lines start start ≡ [] → AreRunsTo asked exec start start first first
runs_none asked exec start first none =
    record { are = sym (append-nil first) ∙ ap (λ (qs : List Asked). first ++ task_runs asked.lines asked.shards exec qs) (sym none) }

pub runs_more : (asked : Asking) (exec : ExecId) (start place : ℕ) (query : Asked) (first old new : List Run)
    → begun_between asked.lines start (place + 1) ≡ begun_between asked.lines start place ++ query ∷ []
    → new ≡ old ++ runs_of asked exec query → AreRunsTo asked exec start place first old → AreRunsTo asked exec start (place + 1) first new
runs_more asked exec start place query first old new behind is so_far =
    record {
      are = is ∙ (ap (λ (l : List Run). l ++ runs_of asked exec query) so_far.are
          ∙ (flat_map_more (runs_of asked exec) first (begun_between asked.lines start place) query
          ∙ ap (λ (qs : List Asked). first ++ task_runs asked.lines asked.shards exec qs) (sym behind)));
    }

pub runs_same : (asked : Asking) (exec : ExecId) (start place : ℕ) (first runs : List Run) → begun_between asked.lines start (place + 1) ≡ begun_between asked.lines start place
    → AreRunsTo asked exec start place first runs → AreRunsTo asked exec start (place + 1) first runs
runs_same asked exec start place first runs behind so_far =
    record { are = so_far.are ∙ ap (λ (qs : List Asked). first ++ task_runs asked.lines asked.shards exec qs) (sym behind) }

-- The same runs are some of those of one place more.
pub some_same : (asked : Asking) (exec : ExecId) (start place : ℕ) (first runs : List Run) → begun_between asked.lines start (place + 1) ≡ begun_between asked.lines start place
    → AreRunsTo asked exec start place first runs → AreSomeRunsTo asked exec start (place + 1) first runs
some_same asked exec start place first runs behind so_far = record {
  done = task_runs asked.lines asked.shards exec (begun_between asked.lines start place);
  left = [];
  are = so_far.are;
  whole = append-nil (task_runs asked.lines asked.shards exec (begun_between asked.lines start place)) ∙ ap (λ (qs : List Asked). task_runs asked.lines asked.shards exec qs) (sym behind);
}

front_of_range : (f : ℕ → Run) (a count shards : ℕ) → count ≤ shards → (left : List Run) × (map f (range_with_len a count) ++ left ≡ map f (range_with_len a shards))
front_of_range f a zero shards within = (map f (range_with_len a shards), refl)
front_of_range f a (suc count) zero within = absurd (omega (arith, within))
front_of_range f a (suc count) (suc shards) within =
    let rest = front_of_range f (a + 1) count shards (omega (arith, within)) in
    (rest.0, ap (λ (l : List Run). f a ∷ l) rest.1)

-- Some of the next query's runs came, those of its first shards.
pub some_more : (asked : Asking) (exec : ExecId) (start place count : ℕ) (query : Asked) (first old new : List Run)
    → begun_between asked.lines start (place + 1) ≡ begun_between asked.lines start place ++ query ∷ [] → count ≤ asked.shards
    → new ≡ old ++ map (task_run asked.lines asked.shards exec query) (range_with_len 0 count) → AreRunsTo asked exec start place first old → AreSomeRunsTo asked exec start (place + 1) first new
some_more asked exec start place count query first old new behind within is so_far =
    let before : List Run = task_runs asked.lines asked.shards exec (begun_between asked.lines start place) in
    let some : List Run = map (task_run asked.lines asked.shards exec query) (range_with_len 0 count) in
    let rest = front_of_range (task_run asked.lines asked.shards exec query) 0 count asked.shards within in
    record {
      done = before ++ some;
      left = rest.0;
      are = is ∙ (ap (λ (l : List Run). l ++ some) so_far.are ∙ append_assoc first before some);
      whole = append_assoc before some rest.0 ∙ (ap (λ (l : List Run). before ++ l) rest.1
          ∙ (flat_map_more (runs_of asked exec) [] (begun_between asked.lines start place) query
          ∙ ap (λ (qs : List Asked). task_runs asked.lines asked.shards exec qs) (sym behind)));
    }

take_front : {X : Type 0} (xs : List X) (m n : ℕ) → m ≤ n → (rest : List X) × (take m xs ++ rest ≡ take n xs)
take_front xs zero n within = (take n xs, refl)
take_front xs (suc m) zero within = absurd (omega (arith, within))
take_front [] (suc m) (suc n) within = ([], refl)
take_front {X} (x ∷ xs) (suc m) (suc n) within =
    let rest = take_front xs m n (omega (arith, within)) in
    (rest.0, ap (λ (l : List X). x ∷ l) rest.1)

drop_front : {X : Type 0} (xs ys : List X) (k : ℕ) → (more : List X) × (drop k xs ++ more ≡ drop k (xs ++ ys))
drop_front xs ys zero = (ys, refl)
drop_front [] ys (suc k) = (drop (suc k) ys, refl)
drop_front (x ∷ xs) ys (suc k) = drop_front xs ys k

-- the queries that are begun before a later place are those before an earlier one, and more
between_front : (lines : List Line) (start m n : ℕ) → m ≤ n → (more : List Asked) × (begun_between lines start m ++ more ≡ begun_between lines start n)
between_front lines start m n within =
    let comings : List Coming = comings_of lines in
    let taken = take_front comings m n within in
    let dropped = drop_front (take m comings) taken.0 start in (
      begun_in dropped.0,
      sym (filter_map-append begun_by (drop start (take m comings)) dropped.0)
          ∙ (ap (λ (l : List Coming). begun_in l) dropped.1 ∙ ap (λ (l : List Coming). begun_in (drop start l)) taken.1),
    )

-- some of those to one place are some of those to a later one
pub some_to : (asked : Asking) (exec : ExecId) (start m n : ℕ) (first runs : List Run) → m ≤ n → AreSomeRunsTo asked exec start m first runs → AreSomeRunsTo asked exec start n first runs
some_to asked exec start m n first runs within some =
    let more = between_front asked.lines start m n within in
    let others : List Run = task_runs asked.lines asked.shards exec more.0 in
    record {
      done = some.done;
      left = some.left ++ others;
      are = some.are;
      whole = sym (append_assoc some.done some.left others)
          ∙ (ap (λ (l : List Run). l ++ others) some.whole
          ∙ (sym (flat_map-append (runs_of asked exec) (begun_between asked.lines start m) more.0)
          ∙ ap (λ (qs : List Asked). task_runs asked.lines asked.shards exec qs) more.1));
    }

-- what some of all are holds of the same list by another name
pub some_of : (first all other runs : List Run) → all ≡ other → AreSomeOf first all runs → AreSomeOf first other runs
some_of first all other runs same some = subst (λ (l : List Run). AreSomeOf first l runs) same some

-- what records tell of themselves
own_told : (direct : List DirectSeen) → TellOf direct (map run_of_direct direct)
own_told direct = sym (map_map run_of_direct unmarked (λ (r : DirectSeen). unmarked (run_of_direct r)) (λ r. refl) direct)

pub told_none : (asked : Asking) (exec : ExecId) (start : ℕ) (direct : List DirectSeen) → begun_between asked.lines start start ≡ [] → TellRunsTo asked exec start start (map run_of_direct direct) direct
told_none asked exec start direct none = record { runs = map run_of_direct direct; tell = own_told direct; are = runs_none asked exec start (map run_of_direct direct) none }

-- of the next query's tasks each has its record
pub told_more : (asked : Asking) (exec : ExecId) (start place : ℕ) (query : Asked) (first : List Run) (old new : List DirectSeen) (runs : List Run)
    → begun_between asked.lines start (place + 1) ≡ begun_between asked.lines start place ++ query ∷ [] → runs ≡ runs_of asked exec query
    → ((before : List Run) → TellOf old before → TellOf new (before ++ runs)) → TellRunsTo asked exec start place first old → TellRunsTo asked exec start (place + 1) first new
told_more asked exec start place query first old new runs behind are told so_far = record {
  runs = so_far.runs ++ runs;
  tell = told so_far.runs so_far.tell;
  are = runs_more asked exec start place query first so_far.runs (so_far.runs ++ runs) behind (ap (λ (l : List Run). so_far.runs ++ l) are) so_far.are;
}

-- of the next query's tasks those over the first shards have a record
pub told_some_more : (asked : Asking) (exec : ExecId) (start place count : ℕ) (query : Asked) (first : List Run) (old new : List DirectSeen) (runs : List Run)
    → begun_between asked.lines start (place + 1) ≡ begun_between asked.lines start place ++ query ∷ [] → count ≤ asked.shards
    → runs ≡ map (task_run asked.lines asked.shards exec query) (range_with_len 0 count)
    → ((before : List Run) → TellOf old before → TellOf new (before ++ runs)) → TellRunsTo asked exec start place first old → TellSomeRunsTo asked exec start (place + 1) first new
told_some_more asked exec start place count query first old new runs behind within are told so_far = record {
  runs = so_far.runs ++ runs;
  tell = told so_far.runs so_far.tell;
  are = some_more asked exec start place count query first so_far.runs (so_far.runs ++ runs) behind within (ap (λ (l : List Run). so_far.runs ++ l) are) so_far.are;
}

-- a turn that begins no query
pub told_same : (asked : Asking) (exec : ExecId) (start place : ℕ) (first : List Run) (direct : List DirectSeen) → begun_between asked.lines start (place + 1) ≡ begun_between asked.lines start place
    → TellRunsTo asked exec start place first direct → TellRunsTo asked exec start (place + 1) first direct
told_same asked exec start place first direct behind so_far =
    record { runs = so_far.runs; tell = so_far.tell; are = runs_same asked exec start place first so_far.runs behind so_far.are }

pub told_some_same : (asked : Asking) (exec : ExecId) (start place : ℕ) (first : List Run) (direct : List DirectSeen) → begun_between asked.lines start (place + 1) ≡ begun_between asked.lines start place
    → TellRunsTo asked exec start place first direct → TellSomeRunsTo asked exec start (place + 1) first direct
told_some_same asked exec start place first direct behind so_far =
    record { runs = so_far.runs; tell = so_far.tell; are = some_same asked exec start place first so_far.runs behind so_far.are }

-- all turns were made: the records tell of some of all, which are all
pub told_to_end : (asked : Asking) (exec : ExecId) (start place : ℕ) (first all : List Run) (direct : List DirectSeen)
    → task_runs asked.lines asked.shards exec (begun_between asked.lines start place) ≡ all → TellRunsTo asked exec start place first direct → TellSomeOf first all direct
told_to_end asked exec start place first all direct is so_far = record {
  runs = so_far.runs;
  tell = so_far.tell;
  are = record {
    done = task_runs asked.lines asked.shards exec (begun_between asked.lines start place);
    left = [];
    are = so_far.are.are;
    whole = append-nil (task_runs asked.lines asked.shards exec (begun_between asked.lines start place)) ∙ is;
  };
}

-- a turn that was not made whole
pub told_to_stop : (asked : Asking) (exec : ExecId) (start m n : ℕ) (first all : List Run) (direct : List DirectSeen) → m ≤ n
    → task_runs asked.lines asked.shards exec (begun_between asked.lines start n) ≡ all → TellSomeRunsTo asked exec start m first direct → TellSomeOf first all direct
told_to_stop asked exec start m n first all direct within is some =
    record { runs = some.runs; tell = some.tell; are = some_of first _ all some.runs is (some_to asked exec start m n first some.runs within some.are) }

pub added_runs : (old more new : List Add) (runs : List Run) → new ≡ old ++ more → map run_of_add more ≡ runs → map run_of_add new ≡ map run_of_add old ++ runs
added_runs old more new runs is are = ap (map run_of_add) is ∙ (map-append run_of_add old more ∙ ap (λ (l : List Run). map run_of_add old ++ l) are)

pub added_few : (asked : Asking) (ask : AskSeen) (queue shards : ℕ) (old new : List Add) → new ≡ old ++ adds_for asked ask queue shards → shards ≤ 64 → length new ≤ length old + 64
added_few asked ask queue shards old new is few =
    let many : length new ≡ length old + shards =
    ap length is ∙ (length-append old (adds_for asked ask queue shards)
    ∙ ap (λ (n : ℕ). length old + n) (length-map-range_with_len (λ shard. add_on queue (head_on_pool asked ask shard)) 0 shards)) in
    omega (arith, many, few)

pub on_ok : {T E P : Type 0} (r : Result T E) → P → OnOk r P
on_ok (Ok x) p = p
on_ok (Err e) p = tt

queue_at_three : (p : Prio) → queue_with 3 (to_z w8 (of_z w8 (pool_priority p))) ≡ queue_of p
queue_at_three prio.Lo = refl
queue_at_three prio.Mid = refl
queue_at_three prio.Hi = refl

-- the queue of a priority, as a call that takes a signed byte sees it
pub queue_is : (queues : ℕ) (p q : Prio) (z : ℤ) → queues ≡ 3 → z ≡ pool_priority p → p ≡ q → queue_with queues (to_z w8 (of_z w8 z)) ≡ queue_of q
queue_is queues p q z three is same =
    (λ i. queue_with (three i) (to_z w8 (of_z w8 (is i)))) ∙ (queue_at_three p ∙ ap queue_of same)
