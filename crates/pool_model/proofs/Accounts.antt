-- What was added is what ran or is handed back: from sums to each ticket once.
use Rattle.std.proofs.Common.{◌≡◌, ◌≢◌, ℕ, zero, suc, ◌+◌, ◌<◌, ◌≤◌, List, [], ◌∷◌, ◌++◌, length, length-append, map, eqb, Some, refl, sym, ap, ◌∙◌, subst, arith, eq-eqb, ne_eqb, Bool}
use Rattle.std.specs.Prelude.{slice_get, cond, ◌&&◌, Option, unwrap_or}
use Rattle.std.specs.List.{sum_by}
use Rattle.std.proofs.lemmas.List.{length-map}
use Rattle.std.proofs.lemmas.List.Sums.{sum_by-append, sum_by-cons}
use mathlib.Core.Logic.{dite}
use native.Mathlib.Decide.{ℕ_discrete}
use Rattle.job_trait.specs.declared.job.Head.{Head}
use Rattle.pool_model.specs.declared.task.Ticket.{Ticket}
use Rattle.pool_model.specs.Tasks.{Task, Add, add_of, numbered}
use Rattle.pool_model.specs.Records.{Record, IsRunOf, AreRunsOf}
use Rattle.pool_model.specs.Seen.{PoolId, PassSeen, Returned, task_of}
use Rattle.pool_model.specs.Passes.{adds_of, tasks_of, adds_total, passes_with, AreAllPasses}
use Rattle.pool_model.specs.Accounts.{AllRun, AllRunOrReturned, IsAddOf, is_ticket, tasks_with, records_with, returned_with, RanOnce, RanOrReturnedOnce}
use Rattle.pool_model.specs.Orders.{IsSameInAnyOrder}
use Rattle.pool_model.proofs.Lists.{sum_by-ones}

abbrev one_if : Bool → ℕ
one_if b = cond b 1 0

sum_numbered : (h : Task → ℕ) (adder k : ℕ) (x : Add) (xs : List Add)
    → sum_by h (numbered adder k (x ∷ xs)) ≡ h (record { ticket = record { adder = adder; index = k }; queue = x.queue; head = x.head }) + sum_by h (numbered adder (k + 1) xs)
sum_numbered h adder k x xs = sum_by-cons h (record { ticket = record { adder = adder; index = k }; queue = x.queue; head = x.head }) (numbered adder (k + 1) xs)

abbrev passes_weight : (Task → ℕ) → List PassSeen → ℕ
passes_weight h [] = 0
passes_weight h (p ∷ ps) = sum_by h (numbered p.number 0 (adds_of p)) + passes_weight h ps

passes_weight_is : (h : Task → ℕ) (passes : List PassSeen) → passes_weight h passes ≡ sum_by h (tasks_of passes)
passes_weight_is h [] = refl
passes_weight_is h (p ∷ ps) = omega (arith, passes_weight_is h ps, sum_by-append h (numbered p.number 0 (adds_of p)) (tasks_of ps))

abbrev with_number : ℕ → List PassSeen → ℕ
with_number n [] = 0
with_number n (p ∷ ps) = cond (eqb p.number n) 1 0 + with_number n ps

with_number_is : (n : ℕ) (passes : List PassSeen) → with_number n passes ≡ passes_with n passes
with_number_is n [] = refl
with_number_is n (p ∷ ps) = omega (arith, with_number_is n ps, sum_by-cons (λ (q : PassSeen). one_if (eqb q.number n)) p ps)

mark : {A : Type 0} → Dec A → ℕ
mark (yes a) = 1
mark (no n) = 0

mark_true : {A : Type 0} (d : Dec A) → A → mark d ≡ 1
unfolding mark
mark_true (yes a) x = refl
mark_true (no n) x = absurd (n x)

mark_false : {A : Type 0} (d : Dec A) → (A → ⊥) → mark d ≡ 0
unfolding mark
mark_false (yes a) n = absurd (n a)
mark_false (no m) n = refl

marked : {A : Type 0} (d : Dec A) → 0 < mark d → A
unfolding mark
marked (yes a) l = a
marked (no n) l = absurd (omega (arith, l))

same_task : (r x : Task) → Dec (r ≡ x)
same_task r x = dite (ℕ_discrete r.ticket.adder x.ticket.adder)
    (λ a. dite (ℕ_discrete r.ticket.index x.ticket.index)
    (λ b. dite (ℕ_discrete r.queue x.queue)
    (λ c. dite (ℕ_discrete r.head.id.0 x.head.id.0)
    (λ d. dite (ℕ_discrete r.head.exec.0 x.head.exec.0)
    (λ e. dite (ℕ_discrete r.head.number x.head.number)
    (λ f. yes (λ i. record { ticket = record { adder = a i; index = b i }; queue = c i; head = record { id = record { 0 = d i }; exec = record { 0 = e i }; number = f i } }))
    (λ n. no (λ p. n (ap (λ (y : Task). y.head.number) p))))
    (λ n. no (λ p. n (ap (λ (y : Task). y.head.exec.0) p))))
    (λ n. no (λ p. n (ap (λ (y : Task). y.head.id.0) p))))
    (λ n. no (λ p. n (ap (λ (y : Task). y.queue) p))))
    (λ n. no (λ p. n (ap (λ (y : Task). y.ticket.index) p))))
    (λ n. no (λ p. n (ap (λ (y : Task). y.ticket.adder) p)))

is_task : Task → Task → ℕ
is_task r x = mark (same_task r x)

some_task : (tasks : List Task) (k : ℕ) (task : Task) → slice_get tasks k ≡ Some task → 0 < sum_by (is_task task) tasks
unfolding is_task
some_task [] k task at = absurd (cc)
some_task (x ∷ xs) zero task at = let same : task ≡ x = sym (ap (λ (o : Option Task). unwrap_or o x) at) in omega (arith, mark_true (same_task task x) same, sum_by-cons (is_task task) x xs)
some_task (x ∷ xs) (suc k) task at = omega (arith, some_task xs k task at, sum_by-cons (is_task task) x xs)

-- an added task is the add at its ticket
some_add : (adder k : ℕ) (adds : List Add) (task : Task) → 0 < sum_by (is_task task) (numbered adder k adds)
    → (j : ℕ) × (adder ≡ task.ticket.adder) × (task.ticket.index ≡ k + j) × (slice_get adds j ≡ Some (add_of task))
unfolding is_task
some_add adder k [] task some = absurd (omega (arith, some))
some_add adder k (x ∷ xs) task some =
    let first : Task = record { ticket = record { adder = adder; index = k }; queue = x.queue; head = x.head } in
    dite (same_task task first)
    (λ e. (0, sym (ap (λ (y : Task). y.ticket.adder) e), ap (λ (y : Task). y.ticket.index) e ∙ omega arith, ap Some (sym (ap add_of e))))
    (λ n. let left : 0 < sum_by (is_task task) (numbered adder (k + 1) xs) = omega (arith, some, mark_false (same_task task first) n, sum_numbered (is_task task) adder k x xs) in let h = some_add adder (k + 1) xs task left in (suc h.0, h.1, h.2 ∙ omega arith, h.3))

some_pass : (h : Task → ℕ) (passes : List PassSeen) → 0 < passes_weight h passes → (k : ℕ) × (pass : PassSeen) × (slice_get passes k ≡ Some pass) × (0 < sum_by h (numbered pass.number 0 (adds_of pass)))
some_pass h [] some = absurd (omega (arith, some))
some_pass h (p ∷ ps) some = dite (ℕ_discrete (sum_by h (numbered p.number 0 (adds_of p))) 0)
    (λ e. let r = some_pass h ps (omega (arith, some, e)) in (suc r.0, r.1, r.2, r.3))
    (λ n. (0, p, refl, omega (arith, n)))

pub length-numbered : (adder k : ℕ) (adds : List Add) → length (numbered adder k adds) ≡ length adds
length-numbered adder k [] = refl
length-numbered adder k (x ∷ xs) = ap suc (length-numbered adder (k + 1) xs)

total_is : (passes : List PassSeen) → passes_weight (λ _. 1) passes ≡ adds_total passes
total_is [] = refl
total_is (p ∷ ps) = omega (arith, total_is ps, sum_by-ones (numbered p.number 0 (adds_of p)), length-numbered p.number 0 (adds_of p), sum_by-cons (λ (q : PassSeen). length (adds_of q)) p ps)

ticket_is : ℕ → ℕ → Ticket → ℕ
ticket_is a i t = one_if (is_ticket a i t)

ticket_weight : ℕ → ℕ → Task → ℕ
ticket_weight a i r = ticket_is a i r.ticket

tasks_with-sum : (a i : ℕ) (tasks : List Task) → tasks_with a i tasks ≡ sum_by (ticket_weight a i) tasks
unfolding ticket_weight ticket_is
tasks_with-sum a i tasks = refl

-- tickets of other numbers don't count
other_adder : (a i b k : ℕ) (adds : List Add) → b ≢ a → sum_by (ticket_weight a i) (numbered b k adds) ≡ 0
unfolding ticket_weight ticket_is
other_adder a i b k [] other = refl
other_adder a i b k (x ∷ xs) other = let h = other_adder a i b (k + 1) xs other in let no_ticket : ticket_is a i record { adder = b; index = k } ≡ 0 = ap (λ c. one_if (c && eqb k i)) (ne_eqb b a other) in omega (arith, h, no_ticket, sum_numbered (ticket_weight a i) b k x xs)

later_index : (a i k : ℕ) (adds : List Add) → i < k → sum_by (ticket_weight a i) (numbered a k adds) ≡ 0
unfolding ticket_weight ticket_is
later_index a i k [] past = refl
later_index a i k (x ∷ xs) past =
    let h = later_index a i (k + 1) xs (omega (arith, past)) in
    let no_ticket : ticket_is a i record { adder = a; index = k } ≡ 0 = ap (λ c. one_if (c && eqb k i)) (eq-eqb a a refl) ∙ ap one_if (ne_eqb k i (λ e. omega (arith, past, e))) in
    omega (arith, h, no_ticket, sum_numbered (ticket_weight a i) a k x xs)

own_index : (a i k : ℕ) (adds : List Add) → k ≤ i → i < k + length adds → sum_by (ticket_weight a i) (numbered a k adds) ≡ 1
unfolding ticket_weight ticket_is
own_index a i k [] from to = absurd (omega (arith, from, to))
own_index a i k (x ∷ xs) from to = dite (ℕ_discrete k i)
    (λ e. let here : ticket_is a i record { adder = a; index = k } ≡ 1 = ap (λ c. one_if (c && eqb k i)) (eq-eqb a a refl) ∙ ap one_if (eq-eqb k i e) in let h = later_index a i (k + 1) xs (omega (arith, e)) in omega (arith, h, here, sum_numbered (ticket_weight a i) a k x xs))
    (λ n. let here : ticket_is a i record { adder = a; index = k } ≡ 0 = ap (λ c. one_if (c && eqb k i)) (eq-eqb a a refl) ∙ ap one_if (ne_eqb k i n) in let h = own_index a i (k + 1) xs (omega (arith, from, n)) (omega (arith, to)) in omega (arith, h, here, sum_numbered (ticket_weight a i) a k x xs))

-- no pass of this number, no ticket of it
no_pass : (a i : ℕ) (passes : List PassSeen) → with_number a passes ≡ 0 → passes_weight (ticket_weight a i) passes ≡ 0
no_pass a i [] none = refl
no_pass a i (p ∷ ps) none = dite (ℕ_discrete p.number a)
    (λ e. let one : one_if (eqb p.number a) ≡ 1 = ap one_if (eq-eqb p.number a e) in absurd (omega (arith, none, one)))
    (λ n. let h = no_pass a i ps (omega (arith, none)) in omega (arith, h, other_adder a i p.number 0 (adds_of p) n))

some_pass_with : (passes : List PassSeen) (k : ℕ) (pass : PassSeen) → slice_get passes k ≡ Some pass → 0 < with_number pass.number passes
some_pass_with [] k pass at = absurd (cc)
some_pass_with (p ∷ ps) zero pass at =
    let same : p ≡ pass = ap (λ (o : Option PassSeen). unwrap_or o p) at in
    let one : one_if (eqb p.number pass.number) ≡ 1 = ap one_if (eq-eqb p.number pass.number (ap (λ (q : PassSeen). q.number) same)) in
    omega (arith, one)
some_pass_with (p ∷ ps) (suc k) pass at = omega (arith, some_pass_with ps k pass at)

one_pass : (i : ℕ) (passes : List PassSeen) (k : ℕ) (pass : PassSeen) → slice_get passes k ≡ Some pass → with_number pass.number passes ≡ 1
    → passes_weight (ticket_weight pass.number i) passes ≡ sum_by (ticket_weight pass.number i) (numbered pass.number 0 (adds_of pass))
one_pass i [] k pass at once = absurd (cc)
one_pass i (p ∷ ps) zero pass at once =
    let same : p ≡ pass = ap (λ (o : Option PassSeen). unwrap_or o p) at in
    let one : one_if (eqb p.number pass.number) ≡ 1 = ap one_if (eq-eqb p.number pass.number (ap (λ (q : PassSeen). q.number) same)) in
    let none_left = no_pass pass.number i ps (omega (arith, once, one)) in
    let here : sum_by (ticket_weight pass.number i) (numbered p.number 0 (adds_of p)) ≡ sum_by (ticket_weight pass.number i) (numbered pass.number 0 (adds_of pass)) = ap (λ (q : PassSeen). sum_by (ticket_weight pass.number i) (numbered q.number 0 (adds_of q))) same in
    omega (arith, none_left, here)
one_pass i (p ∷ ps) (suc k) pass at once =
    let some = some_pass_with ps k pass at in
    dite (ℕ_discrete p.number pass.number)
    (λ e. let one : one_if (eqb p.number pass.number) ≡ 1 = ap one_if (eq-eqb p.number pass.number e) in absurd (omega (arith, once, one, some)))
    (λ n. let none_here : one_if (eqb p.number pass.number) ≡ 0 = ap one_if (ne_eqb p.number pass.number n) in
    let h = one_pass i ps k pass at (omega (arith, once, none_here)) in omega (arith, h, other_adder pass.number i p.number 0 (adds_of p) n))

-- tasks that are in any order what the passes added are all adds
record AreAllAdds (passes : List PassSeen) (tasks : List Task) : Type 0 where
  each : (k : ℕ) (task : Task) → slice_get tasks k ≡ Some task → IsAddOf passes task
  once : (k : ℕ) (pass : PassSeen) (index : ℕ) → slice_get passes k ≡ Some pass → index < length (adds_of pass) → tasks_with pass.number index tasks ≡ 1
  many : length tasks ≡ adds_total passes

all_adds : (passes : List PassSeen) (tasks : List Task) → ((k : ℕ) (pass : PassSeen) → slice_get passes k ≡ Some pass → passes_with pass.number passes ≡ 1) → IsSameInAnyOrder tasks (tasks_of passes) → AreAllAdds passes tasks
all_adds passes tasks numbers same =
    let weight : (h : Task → ℕ) → sum_by h tasks ≡ passes_weight h passes = λ h. same.sums h ∙ sym (passes_weight_is h passes) in
    let once : (k : ℕ) (pass : PassSeen) → slice_get passes k ≡ Some pass → with_number pass.number passes ≡ 1 = λ k pass at. with_number_is pass.number passes ∙ numbers k pass at in
    record {
      each = λ k task at.
          let p = some_pass (is_task task) passes (subst (λ n. 0 < n) (weight (is_task task)) (some_task tasks k task at)) in
          let a = some_add p.1.number 0 (adds_of p.1) task p.3 in
          record { place = p.0; pass = p.1; at = p.2; number = a.1; add = ap (slice_get (adds_of p.1)) (a.2 ∙ omega arith) ∙ a.3 };
      once = λ k pass i at within. tasks_with-sum pass.number i tasks ∙ (weight (ticket_weight pass.number i) ∙ (one_pass i passes k pass at (once k pass at) ∙ own_index pass.number i 0 (adds_of pass) (omega arith) (omega (arith, within))));
      many = sym (sum_by-ones tasks) ∙ (weight (λ _. 1) ∙ total_is passes);
    }

nth_run : (tasks : List Task) (records : List Record) → AreRunsOf tasks records → (k : ℕ) (r : Record) → slice_get records k ≡ Some r → (task : Task) × (slice_get tasks k ≡ Some task) × IsRunOf task r
nth_run [] [] runs k r at = absurd (cc)
nth_run [] (x ∷ xs) runs k r at = absurd runs
nth_run (t ∷ ts) [] runs k r at = absurd runs
nth_run (t ∷ ts) (x ∷ xs) runs zero r at = (t, refl, subst (IsRunOf t) (ap (λ (o : Option Record). unwrap_or o x) at) runs.0)
nth_run (t ∷ ts) (x ∷ xs) runs (suc k) r at = nth_run ts xs runs.1 k r at

pub length-runs : (ts : List Task) (rs : List Record) → AreRunsOf ts rs → length ts ≡ length rs
length-runs [] [] all = refl
length-runs [] (r ∷ rs) all = absurd all
length-runs (t ∷ ts) [] all = absurd all
length-runs (t ∷ ts) (r ∷ rs) all = ap suc (length-runs ts rs all.1)

-- the records of two lists of tasks together
pub runs-append : (ts us : List Task) (rs ss : List Record) → AreRunsOf ts rs → AreRunsOf us ss → AreRunsOf (ts ++ us) (rs ++ ss)
runs-append [] us [] ss one other = other
runs-append [] us (r ∷ rs) ss one other = absurd one
runs-append (t ∷ ts) us [] ss one other = absurd one
runs-append (t ∷ ts) us (r ∷ rs) ss one other = (one.0, runs-append ts us rs ss one.1 other)

same_count : (a i : ℕ) (tasks : List Task) (records : List Record) → AreRunsOf tasks records → tasks_with a i tasks ≡ records_with a i records
same_count a i [] [] runs = refl
same_count a i [] (x ∷ xs) runs = absurd runs
same_count a i (t ∷ ts) [] runs = absurd runs
same_count a i (t ∷ ts) (x ∷ xs) runs =
    let here : one_if (is_ticket a i t.ticket) ≡ one_if (is_ticket a i x.ticket) = ap (λ (y : Ticket). one_if (is_ticket a i y)) (sym runs.0.ticket) in
    omega (
      arith,
      here,
      same_count a i ts xs runs.1,
      sum_by-cons (λ (y : Task). one_if (is_ticket a i y.ticket)) t ts,
      sum_by-cons (λ (y : Record). one_if (is_ticket a i y.ticket)) x xs,
    )

module _ {J : Type 0} (head : J → Head) where
  returned_count : (a i : ℕ) (returned : List (Returned J)) → tasks_with a i (map (task_of head) returned) ≡ returned_with a i returned
  returned_count a i [] = refl
  returned_count a i (b ∷ bs) = omega (
    arith,
    returned_count a i bs,
    sum_by-cons (λ (y : Task). one_if (is_ticket a i y.ticket)) (task_of head b) (map (task_of head) bs),
    sum_by-cons (λ (y : Returned J). one_if (is_ticket a i y.ticket)) b bs,
  )

  returned_at : (returned : List (Returned J)) (k : ℕ) (b : Returned J) → slice_get returned k ≡ Some b → slice_get (map (task_of head) returned) k ≡ Some (task_of head b)
  returned_at [] k b at = absurd (cc)
  returned_at (x ∷ xs) zero b at = ap (λ (y : Returned J). Some (task_of head y)) (ap (λ (o : Option (Returned J)). unwrap_or o x) at)
  returned_at (x ∷ xs) (suc k) b at = returned_at xs k b at

first_at : (xs ys : List Task) (k : ℕ) (task : Task) → slice_get xs k ≡ Some task → slice_get (xs ++ ys) k ≡ Some task
first_at [] ys k task at = absurd (cc)
first_at (x ∷ xs) ys zero task at = at
first_at (x ∷ xs) ys (suc k) task at = first_at xs ys k task at

last_at : (xs ys : List Task) (k : ℕ) (task : Task) → slice_get ys k ≡ Some task → (j : ℕ) × (slice_get (xs ++ ys) j ≡ Some task)
last_at [] ys k task at = (k, at)
last_at (x ∷ xs) ys k task at = let h = last_at xs ys k task at in (suc h.0, h.1)

-- a pool that was joined
pub ran_once : (pool : PoolId) (adders : ℕ) (passes : List PassSeen) (records : List Record) → AreAllPasses pool adders passes → AllRun passes records → RanOnce passes records
ran_once pool adders passes records whole told =
    let all = all_adds passes told.tasks whole.once told.all in
    record {
      each = λ k r at. let h = nth_run told.tasks records told.runs k r at in record { task = h.0; add = all.each k h.0 h.1; run = h.2 };
      once = λ k pass index at within. sym (same_count pass.number index told.tasks records told.runs) ∙ all.once k pass index at within;
      many = sym (length-runs told.tasks records told.runs) ∙ all.many;
    }

-- a pool that was stopped
pub ran_or_returned_once : {J : Type 0} (head : J → Head) (pool : PoolId) (adders : ℕ) (passes : List PassSeen) (records : List Record) (returned : List (Returned J))
    → AreAllPasses pool adders passes → AllRunOrReturned head passes records returned → RanOrReturnedOnce head passes records returned
ran_or_returned_once head pool adders passes records returned whole told =
    let more = map (task_of head) returned in
    let all = all_adds passes (told.tasks ++ more) whole.once told.all in
    record {
      each = λ k r at. let h = nth_run told.tasks records told.runs k r at in record { task = h.0; add = all.each k h.0 (first_at told.tasks more k h.0 h.1); run = h.2 };
      each_returned = λ k b at. let h = last_at told.tasks more k (task_of head b) (returned_at head returned k b at) in all.each h.0 (task_of head b) h.1;
      once = λ k pass index at within. omega (
        arith,
        same_count pass.number index told.tasks records told.runs,
        sum_by-append (λ (y : Task). one_if (is_ticket pass.number index y.ticket)) told.tasks more,
        returned_count head pass.number index returned,
        all.once k pass index at within,
      );
      many = omega (arith, length-runs told.tasks records told.runs, length-append told.tasks more, length-map returned (task_of head), all.many);
    }
