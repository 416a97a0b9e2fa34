-- One look more, and one record more.
use Rattle.std.proofs.Common.{◌≡◌, ◌≢◌, ℕ, zero, suc, ◌+◌, ◌-◌, ◌*◌, ◌^◌, ◌<◌, ◌≤◌, cond, eqb, Bool, true, false, List, [], ◌∷◌, ◌++◌, length, length-append, map, set, Option, Some, refl, sym, ap, ◌∙◌, subst, append_assoc, append-nil, arith}
use Rattle.std.specs.Prelude.{slice_get, unwrap_or}
use Rattle.std.specs.List.{All, filter, sum_by, flat_map}
use Rattle.std.specs.declared.alloc.Global.{Global}
use Rattle.std.proofs.lemmas.Grind.{flat_map-append}
use Rattle.std.proofs.lemmas.Bool.{eq-eqb, ne_eqb}
use Rattle.std.proofs.lemmas.List.{length-map, length-set, map-append}
use Rattle.std.proofs.lemmas.List.Elements.{filter-append, All-head, All-tail, All-nil, All-push}
use Rattle.std.proofs.lemmas.List.Sums.{sum_by_push}
use mathlib.Core.Logic.{dite}
use native.Mathlib.Decide.{ℕ_discrete}
use Rattle.crossbeam_queue.specs.SegTies.{SegId}
use Rattle.pool_model.specs.declared.task.Ending.{Ending}
use Rattle.pool_model.specs.declared.task.Entry.{Entry}
use Rattle.pool_model.specs.Endings.{IsAt, RanWhatItTook}
use Rattle.pool_model.specs.Records.{Record, IsRunOf, AreRunsOf}
use Rattle.pool_model.specs.Seen.{at_queue}
use Rattle.pool_model.specs.Steps.{Step, LookSeen, of_queue, looked, found_empty, took, steps_in, tasks_taken, empty_from_the_top, Turn, ran, idle, steps_of, GoesOn, IsLast, Worked}
use Rattle.pool_model.specs.Tasks.{Task, in_queue, upwards}
use Rattle.pool_model.specs.Tickets.{Ascend, tickets_of}
use Rattle.prio_pool.specs.Passes.{TookNothing, end_seen}
use Rattle.prio_pool.specs.Takers.{TakersSeen, HasTaken, RanTaken, and_popped}
use Rattle.prio_pool.specs.Turned.{WorkedSoFar}
use Rattle.pool_model.proofs.Accounts.{length-runs, runs-append}
use Rattle.pool_model.proofs.Turns.{none_taken, taken-append}
use Rattle.prio_pool.proofs.Orders.{same-length}
use Rattle.prio_pool.proofs.Adding.{upwards_more, more_sum, task_at}

pub steps_more : (looks : List LookSeen) (l : LookSeen) → steps_in (looks ++ l ∷ []) ≡ steps_in looks ++ l.step ∷ []
steps_more looks l = map-append (λ (x : LookSeen). x.step) looks (l ∷ [])

tasks_more : (looks : List LookSeen) (l : LookSeen) → tasks_taken (steps_in (looks ++ l ∷ [])) ≡ tasks_taken (steps_in looks) ++ tasks_taken (l.step ∷ [])
tasks_more looks l = ap tasks_taken (steps_more looks l) ∙ taken-append (steps_in looks) (l.step ∷ [])

pub get_map : {X Y : Type 0} (f : X → Y) (xs : List X) (k : ℕ) (x : X) → slice_get xs k ≡ Some x → slice_get (map f xs) k ≡ Some (f x)
get_map f [] k x at = cc
get_map f (y ∷ ys) zero x at = ap (λ (z : _). Some (f z)) (ap (λ (o : Option _). unwrap_or o y) at)
get_map f (y ∷ ys) (suc k) x at = get_map f ys k x at

set_here : (lists : List (List Entry)) (k : ℕ) (l : List Entry) → k < length lists → at_queue (set lists k l) k ≡ l
set_here [] k l within = absurd (omega (arith, within))
set_here (x ∷ xs) zero l within = refl
set_here (x ∷ xs) (suc k) l within = set_here xs k l (omega (arith, within))

set_else : (lists : List (List Entry)) (k j : ℕ) (l : List Entry) → j ≢ k → at_queue (set lists k l) j ≡ at_queue lists j
set_else [] k j l other = refl
set_else (x ∷ xs) zero zero l other = absurd (other refl)
set_else (x ∷ xs) zero (suc j) l other = refl
set_else (x ∷ xs) (suc k) zero l other = refl
set_else (x ∷ xs) (suc k) (suc j) l other = set_else xs k j l (λ e. other (ap suc e))

abbrev in_it : ℕ → Task → Bool
in_it q t = eqb t.queue q

-- a look that took nothing
pub taken_same : (t : TakersSeen) (count : ℕ) (found : Option Ending) (l : LookSeen) → IsAt t.pool l.place l.step → tasks_taken (l.step ∷ []) ≡ [] → HasTaken t
    → HasTaken record { pool = t.pool; number = t.number; popped = t.popped; looked_so_often = count; found = found; looks = t.looks ++ l ∷ [] }
taken_same t count found l at none has =
    let same : tasks_taken (steps_in (t.looks ++ l ∷ [])) ≡ tasks_taken (steps_in t.looks) = tasks_more t.looks l ∙ (ap (λ (x : List Task). tasks_taken (steps_in t.looks) ++ x) none ∙ append-nil (tasks_taken (steps_in t.looks))) in
    record {
      looks = All-push (λ (x : LookSeen). IsAt t.pool x.place x.step) t.looks l has.looks at;
      of_queues = λ q. ap (filter (in_it q)) same ∙ has.of_queues q;
      all = record { sums = λ h. ap (sum_by h) same ∙ has.all.sums h };
      ascend = has.ascend;
      short = has.short;
      few = has.few;
      as_many = has.as_many;
    }

-- a look that took a task
pub taken_more : (t : TakersSeen) (k : ℕ) (at : SegId Global) (e : Entry) → k < length t.popped → slice_get t.pool.queues k ≡ Some at
    → All (λ entries. Ascend (tickets_of entries)) (set t.popped k (at_queue t.popped k ++ e ∷ [])) → All (λ (entries : List Entry). length entries ≤ 2 ^ 38) (set t.popped k (at_queue t.popped k ++ e ∷ []))
    → HasTaken t → HasTaken (and_popped t k at e)
taken_more t k at e within here up short has =
    let task : Task = record { ticket = e.ticket; queue = k; head = e.head } in
    let l : LookSeen = record { place = of_queue at; step = took k e } in
    let popped = t.popped in
    let tasks = tasks_taken (steps_in t.looks) in
    let later = set popped k (at_queue popped k ++ e ∷ []) in
    let m = upwards_more 0 popped k k e within (omega arith) in
    let is : tasks_taken (steps_in (t.looks ++ l ∷ [])) ≡ tasks ++ task ∷ [] = tasks_more t.looks l in
    record {
      looks = All-push (λ (x : LookSeen). IsAt t.pool x.place x.step) t.looks l has.looks (get_map of_queue t.pool.queues k at here);
      of_queues = λ q. ap (filter (in_it q)) is ∙ (filter-append (in_it q) tasks (task ∷ []) ∙ dite (ℕ_discrete q k)
          (λ same.
          let yes_here : eqb k q ≡ eqb q q = ap (λ (n : ℕ). eqb n q) (sym same) in
          let b : eqb k q ≡ true = yes_here ∙ eq-eqb q q refl in
          let here : at_queue later q ≡ at_queue popped q ++ e ∷ [] = ap (at_queue later) same ∙ (set_here popped k (at_queue popped k ++ e ∷ []) within ∙ ap (λ (n : ℕ). at_queue popped n ++ e ∷ []) (sym same)) in
          let number : task ≡ record { ticket = e.ticket; queue = q; head = e.head } = ap (λ (n : ℕ). record { ticket = e.ticket; queue = n; head = e.head }) (sym same) in
          ap (λ (x : List Task). x ++ filter (in_it q) (task ∷ [])) (has.of_queues q)
          ∙ (ap (λ (c : Bool). in_queue q (at_queue popped q) ++ cond c (task ∷ []) []) b
          ∙ (ap (λ (y : Task). in_queue q (at_queue popped q) ++ y ∷ []) number
          ∙ (sym (map-append (λ (x : Entry). record { ticket = x.ticket; queue = q; head = x.head }) (at_queue popped q) (e ∷ [])) ∙ ap (in_queue q) (sym here)))))
          (λ other.
          let b : eqb k q ≡ false = ne_eqb k q (λ e. other (sym e)) in
          ap (λ (c : Bool). filter (in_it q) tasks ++ cond c (task ∷ []) []) b
          ∙ (append-nil (filter (in_it q) tasks) ∙ (has.of_queues q ∙ ap (in_queue q) (sym (set_else popped k q (at_queue popped k ++ e ∷ []) other))))));
      all = record { sums = λ h. omega (arith, ap (sum_by h) is, sum_by_push h tasks task, has.all.sums h, more_sum task (upwards 0 popped) (upwards 0 later) m h) };
      ascend = up;
      short = short;
      few = omega (arith, has.few, length-set popped k (at_queue popped k ++ e ∷ []));
      as_many = length-set popped k (at_queue popped k ++ e ∷ []) ∙ has.as_many;
    }

upwards_short : (first : ℕ) (lists : List (List Entry)) → All (λ (l : List Entry). length l ≤ 2 ^ 38) lists → length (upwards first lists) ≤ length lists * (2 ^ 38)
upwards_short first [] all = omega arith
upwards_short first (l ∷ ls) all =
    let here = All-head (λ (x : List Entry). length x ≤ 2 ^ 38) l ls all in
    let rest = upwards_short (first + 1) ls (All-tail (λ (x : List Entry). length x ≤ 2 ^ 38) l ls all) in
    omega (arith, here, rest, length-append (in_queue first l) (upwards (first + 1) ls), length-map l (λ (x : Entry). task_at first x))

-- there are not too many records
pub records_short : (t : TakersSeen) (records : List Record) → HasTaken t → RanTaken t records → length records ≤ 2 ^ 46
records_short t records has ran_taken =
    let most = upwards_short 0 t.popped has.short in
    omega (arith, most, has.few, length-runs (tasks_taken (steps_in t.looks)) records ran_taken.runs, same-length (tasks_taken (steps_in t.looks)) (upwards 0 t.popped) has.all)

-- what a turn took
tasks_of_run : (queues : ℕ) (found : Option Ending) (queue : ℕ) (e : Entry) → tasks_taken (steps_of queues (ran found queue e)) ≡ record { ticket = e.ticket; queue = queue; head = e.head } ∷ []
tasks_of_run queues found queue e =
    taken-append (empty_from_the_top queues (queues - suc queue)) (took queue e ∷ [])
    ∙ ap (λ (l : List Task). l ++ record { ticket = e.ticket; queue = queue; head = e.head } ∷ []) (none_taken queues (queues - suc queue))

-- a turn that ran a task, with its record
pub ran_more : (t u : TakersSeen) (queues : ℕ) (found : Option Ending) (queue : ℕ) (e : Entry) (records : List Record) (r : Record)
    → steps_in u.looks ≡ steps_in t.looks ++ steps_of queues (ran found queue e) → IsRunOf record { ticket = e.ticket; queue = queue; head = e.head } r → RanTaken t records → RanTaken u (records ++ r ∷ [])
ran_more t u queues found queue e records r steps is has =
    let task : Task = record { ticket = e.ticket; queue = queue; head = e.head } in
    let tasks : tasks_taken (steps_in u.looks) ≡ tasks_taken (steps_in t.looks) ++ task ∷ [] =
    ap tasks_taken steps ∙ (taken-append (steps_in t.looks) (steps_of queues (ran found queue e)) ∙ ap (λ (l : List Task). tasks_taken (steps_in t.looks) ++ l) (tasks_of_run queues found queue e)) in
    record { runs = subst (λ (l : List Task). AreRunsOf l (records ++ r ∷ [])) (sym tasks) (runs-append (tasks_taken (steps_in t.looks)) (task ∷ []) records (r ∷ []) has.runs (is, tt)) }

-- a turn that took nothing
pub ran_same : (t u : TakersSeen) (steps : List Step) (records : List Record) → steps_in u.looks ≡ steps_in t.looks ++ steps → tasks_taken steps ≡ [] → RanTaken t records → RanTaken u records
ran_same t u steps records is none has =
    let tasks : tasks_taken (steps_in u.looks) ≡ tasks_taken (steps_in t.looks) =
    ap tasks_taken is ∙ (taken-append (steps_in t.looks) steps ∙ (ap (λ (l : List Task). tasks_taken (steps_in t.looks) ++ l) none ∙ append-nil (tasks_taken (steps_in t.looks)))) in
    record { runs = subst (λ (l : List Task). AreRunsOf l records) (sym tasks) has.runs }

pub idle_takes_none : (queues : ℕ) (found : Option Ending) → tasks_taken (steps_of queues (idle found)) ≡ []
idle_takes_none queues found = none_taken queues queues

-- the steps of a turn are its look and what followed
pub turn_steps : (t u v : List Step) (found : Option Ending) (more : List Step) → u ≡ t ++ looked found ∷ [] → v ≡ u ++ more → v ≡ t ++ looked found ∷ more
turn_steps t u v found more first next = next ∙ (ap (λ (l : List Step). l ++ more) first ∙ append_assoc t (looked found ∷ []) more)

-- a worker's turns, one by one
pub so_far_none : (queues : ℕ) (steps : List Step) → steps ≡ [] → WorkedSoFar queues steps
so_far_none queues steps is = record { turns = []; list = is; each = All-nil (GoesOn queues) }

pub so_far_more : (queues : ℕ) (steps more : List Step) (t : Turn) → WorkedSoFar queues steps → GoesOn queues t → more ≡ steps ++ steps_of queues t → WorkedSoFar queues more
so_far_more queues steps more t so_far well is = record {
  turns = so_far.turns ++ t ∷ [];
  list = is ∙ (ap (λ (l : List Step). l ++ steps_of queues t) so_far.list ∙ (sym (ap (λ (l : List Step). flat_map (steps_of queues) so_far.turns ++ l) (append-nil (steps_of queues t))) ∙ sym (flat_map-append (steps_of queues) so_far.turns (t ∷ []))));
  each = All-push (GoesOn queues) so_far.turns t so_far.each well;
}

pub worked_all : (queues : ℕ) (end : Option Ending) (steps more : List Step) (t : Turn) → WorkedSoFar queues steps → IsLast end t → more ≡ steps ++ steps_of queues t → Worked queues end more
worked_all queues end steps more t so_far ends is = record {
  turns = so_far.turns;
  last = t;
  list = is ∙ ap (λ (l : List Step). l ++ steps_of queues t) so_far.list;
  each = so_far.each;
  ends = ends;
}

-- one queue more was found empty
pub one_more_empty : (queues number : ℕ) → number < queues → empty_from_the_top queues (queues - number) ≡ empty_from_the_top queues (queues - suc number) ++ found_empty number ∷ []
one_more_empty queues number within =
    let count : queues - number ≡ suc (queues - suc number) = omega (arith, within) in
    let here : queues - suc (queues - suc number) ≡ number = omega (arith, within) in
    ap (empty_from_the_top queues) count ∙ ap (λ (k : ℕ). empty_from_the_top queues (queues - suc number) ++ found_empty k ∷ []) here

none_up : (first : ℕ) (lists : List (List Entry)) → All (λ (l : List Entry). l ≡ []) lists → upwards first lists ≡ []
none_up first [] all = refl
none_up first (l ∷ ls) all =
    let here : l ≡ [] = All-head (λ (x : List Entry). x ≡ []) l ls all in
    (λ i. in_queue first (here i) ++ none_up (first + 1) ls (All-tail (λ (x : List Entry). x ≡ []) l ls all) i)

none_at : (lists : List (List Entry)) (k : ℕ) → All (λ (l : List Entry). l ≡ []) lists → at_queue lists k ≡ []
none_at [] k all = refl
none_at (l ∷ ls) zero all = All-head (λ (x : List Entry). x ≡ []) l ls all
none_at (l ∷ ls) (suc k) all = none_at ls k (All-tail (λ (x : List Entry). x ≡ []) l ls all)

pub nothing_taken : (t : TakersSeen) → TookNothing t → length t.popped ≤ 256 → length t.popped ≡ length t.pool.queues → HasTaken t
nothing_taken t took_none few as_many =
    let tasks : tasks_taken (steps_in t.looks) ≡ [] = ap (λ (l : List LookSeen). tasks_taken (steps_in l)) took_none.looks in
    record {
      looks = subst (All (λ (x : LookSeen). IsAt t.pool x.place x.step)) (sym took_none.looks) (All-nil (λ (x : LookSeen). IsAt t.pool x.place x.step));
      of_queues = λ q. ap (filter (in_it q)) tasks ∙ ap (in_queue q) (sym (none_at t.popped q took_none.none));
      all = record { sums = λ h. ap (sum_by h) tasks ∙ ap (sum_by h) (sym (none_up 0 t.popped took_none.none)) };
      ascend = all_none (λ entries. Ascend (tickets_of entries)) t.popped tt took_none.none;
      short = all_none (λ (entries : List Entry). length entries ≤ 2 ^ 38) t.popped (omega arith) took_none.none;
      few = few;
      as_many = as_many;
    }
  where
    all_none : (P : List Entry → Type 0) (lists : List (List Entry)) → P [] → All (λ (l : List Entry). l ≡ []) lists → All P lists
    all_none P lists p all k d within = subst P (sym (all k d within)) p

pub ran_nothing : (t : TakersSeen) → TookNothing t → RanTaken t []
ran_nothing t took_none = record { runs = subst (λ (l : List LookSeen). AreRunsOf (tasks_taken (steps_in l)) []) (sym took_none.looks) tt }

pub ran_what_it_took : (t : TakersSeen) (records : List Record) → HasTaken t → RanTaken t records → RanWhatItTook (end_seen t records)
ran_what_it_took t records has ran_taken = record { looks = has.looks; runs = ran_taken.runs; of_queue = has.of_queues; all = has.all; ascend = has.ascend }
