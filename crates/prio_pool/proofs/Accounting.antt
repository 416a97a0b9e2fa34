-- What the settled queues of a pool say of all its tasks.
use Rattle.std.proofs.Common.{◌≡◌, ℕ, zero, suc, ◌+◌, ◌<◌, List, [], ◌∷◌, ◌++◌, length, map, refl, sym, ap, ◌∙◌, subst, append-nil, arith}
use Rattle.std.specs.List.{All, flat_map, sum_by}
use Rattle.std.specs.declared.alloc.Global.{Global}
use Rattle.std.proofs.lemmas.List.{map-append}
use Rattle.std.proofs.lemmas.List.Sums.{sum_by-append, sum_by-cons}
use Rattle.std.proofs.lemmas.List.Elements.{All-cons, All-head, All-tail, All-nil}
use Rattle.crossbeam_queue.specs.SegTies.{SegId}
use Rattle.job_trait.specs.declared.job.Head.{Head}
use Rattle.pool_model.specs.declared.task.Entry.{Entry}
use Rattle.pool_model.specs.Endings.{IsHistoryOf, RanWhatItTook, records_of}
use Rattle.pool_model.specs.History.{Event, outs, accepted_by, taken_by}
use Rattle.pool_model.specs.Orders.{IsSameInAnyOrder}
use Rattle.pool_model.specs.Passes.{HasNoGap, adds_of, tasks_of}
use Rattle.pool_model.specs.Records.{AreRunsOf}
use Rattle.pool_model.specs.Seen.{PassSeen, EndSeen, at_queue, steps_by, task_of}
use Rattle.pool_model.specs.Steps.{tasks_taken}
use Rattle.pool_model.specs.Tasks.{Task, in_queue, upwards, downwards, numbered}
use Rattle.task_queue.specs.declared.rule.Queued.{Queued}
use Rattle.task_queue.specs.declared.view.Share.{Share}
use Rattle.task_queue.specs.Settled.{Settled}
use Rattle.task_queue.specs.Views.{share, entries_of}
use Rattle.pool_runs.specs.declared.placed.Placed.{Placed}
use Rattle.prio_pool.specs.Adders.{entry_of}
use Rattle.prio_pool.specs.Gathering.{gathered_at, gathered_from, AllSettled, IsWhole}
use Rattle.pool_runs.specs.Returning.{back_of, back_from}
use Rattle.pool_model.proofs.Accounts.{runs-append}

all_of_map : {X Y : Type 0} (f : X → Y) (P : Y → Type 0) (xs : List X) → All P (map f xs) → All (λ x. P (f x)) xs
all_of_map f P [] all = All-nil (λ (x : _). P (f x))
all_of_map f P (x ∷ xs) all = All-cons (λ (y : _). P (f y)) x xs (All-head P (f x) (map f xs) all) (all_of_map f P xs (All-tail P (f x) (map f xs) all))

entries_of_map : {X : Type 0} (number : X → ℕ) (entries : X → List Entry) (xs : List X) → entries_of (map (λ x. share (number x) (entries x)) xs) ≡ flat_map entries xs
entries_of_map number entries [] = refl
entries_of_map number entries (x ∷ xs) = ap (λ (l : List Entry). entries x ++ l) (entries_of_map number entries xs)

-- one queue that was settled has its history
pub history_of : (whole : ℕ) (passes : List PassSeen) (ends : List EndSeen) (k : ℕ) (q : SegId Global) (rest : List Entry) → Settled (gathered_at whole passes ends k q) rest → (history : List Event) × IsHistoryOf passes ends k rest history
history_of whole passes ends k q rest s =
    let h = s.history in
    let w = s.whole in (
      h,
      record {
        lawful = w.lawful;
        accepted = all_of_map (λ (p : PassSeen). share p.number (at_queue p.pushed k)) (λ (x : Share). accepted_by x.number h ≡ x.entries) passes w.accepted;
        taken = all_of_map (λ (e : EndSeen). share e.number (at_queue e.popped k)) (λ (x : Share). taken_by x.number h ≡ x.entries) ends w.taken_is;
        all_accepted = record { sums = λ f. ap (sum_by f) (sym (entries_of_map (λ (p : PassSeen). p.number) (λ (p : PassSeen). at_queue p.pushed k) passes)) ∙ w.all_accepted.sums f };
        all_taken = record { sums = λ f. ap (sum_by f) (sym (entries_of_map (λ (e : EndSeen). e.number) (λ (e : EndSeen). at_queue e.popped k) ends)) ∙ w.all_taken.sums f };
        left = w.left;
        left_last = w.left_last;
        whole = sym (w.waits ∙ append-nil (outs h));
      },
    )

module _ {J : Type 0} (head : J → Head) where
  abbrev pub entries_in : List (List (Queued (Placed J))) → List (List Entry)
  entries_in rests = map (map (entry_of head)) rests

  -- so do all of them
  pub histories_of : (whole : ℕ) (passes : List PassSeen) (ends : List EndSeen) (k : ℕ) (qs : List (SegId Global)) (rests : List (List (Queued (Placed J)))) → AllSettled head (gathered_from whole passes ends k qs) rests
      → (j : ℕ) → j < length qs → (history : List Event) × IsHistoryOf passes ends (k + j) (at_queue (entries_in rests) j) history
  histories_of whole passes ends k [] rests all j within = absurd (omega (arith, within))
  histories_of whole passes ends k (q ∷ qs) [] all j within = absurd all
  histories_of whole passes ends k (q ∷ qs) (r ∷ rests) all zero within =
      let same : k ≡ k + 0 = omega arith in
      subst (λ (n : ℕ). (history : List Event) × IsHistoryOf passes ends n (map (entry_of head) r) history) same (history_of whole passes ends k q (map (entry_of head) r) all.0)
  histories_of whole passes ends k (q ∷ qs) (r ∷ rests) all (suc j) within =
      let next : (k + 1) + j ≡ k + suc j = omega arith in
      subst (λ (n : ℕ). (history : List Event) × IsHistoryOf passes ends n (at_queue (entries_in rests) j) history) next (histories_of whole passes ends (k + 1) qs rests all.1 j (omega (arith, within)))

  pub as_many_rests : (whole : ℕ) (passes : List PassSeen) (ends : List EndSeen) (k : ℕ) (qs : List (SegId Global)) (rests : List (List (Queued (Placed J)))) → AllSettled head (gathered_from whole passes ends k qs) rests → length rests ≡ length qs
  as_many_rests whole passes ends k [] [] all = refl
  as_many_rests whole passes ends k [] (r ∷ rests) all = absurd all
  as_many_rests whole passes ends k (q ∷ qs) [] all = absurd all
  as_many_rests whole passes ends k (q ∷ qs) (r ∷ rests) all = ap suc (as_many_rests whole passes ends (k + 1) qs rests all.1)

-- sums over queues: the tasks of queue k, k + 1, .., so many of them, of what a function gives for each
pub total : (Task → ℕ) → ℕ → ℕ → (ℕ → List Entry) → ℕ
total h k zero f = 0
total h k (suc n) f = sum_by h (in_queue k (f k)) + total h (k + 1) n f

pub upwards_total : (h : Task → ℕ) (k : ℕ) (lists : List (List Entry)) (f : ℕ → List Entry) → ((j : ℕ) → at_queue lists j ≡ f (k + j)) → sum_by h (upwards k lists) ≡ total h k (length lists) f
unfolding total
upwards_total h k [] f same = refl
upwards_total h k (l ∷ ls) f same =
    let none : k + 0 ≡ k = omega arith in
    let here : l ≡ f k = same 0 ∙ ap f none in
    let rest = upwards_total h (k + 1) ls f (λ j. same (suc j) ∙ ap f (omega arith)) in
    omega (arith, sum_by-append h (in_queue k l) (upwards (k + 1) ls), ap (λ (x : List Entry). sum_by h (in_queue k x)) here, rest)

pub downwards_same : (h : Task → ℕ) (k : ℕ) (lists : List (List Entry)) → sum_by h (downwards k lists) ≡ sum_by h (upwards k lists)
downwards_same h k [] = refl
downwards_same h k (l ∷ ls) = omega (arith, sum_by-append h (downwards (k + 1) ls) (in_queue k l), sum_by-append h (in_queue k l) (upwards (k + 1) ls), downwards_same h (k + 1) ls)

sum_by-plus : {X : Type 0} (f g : X → ℕ) (xs : List X) → sum_by (λ x. f x + g x) xs ≡ sum_by f xs + sum_by g xs
sum_by-plus f g [] = refl
sum_by-plus f g (x ∷ xs) = omega (arith, sum_by-cons (λ (y : _). f y + g y) x xs, sum_by-cons f x xs, sum_by-cons g x xs, sum_by-plus f g xs)

sum_by-zeros : {X : Type 0} (xs : List X) → sum_by (λ _. 0) xs ≡ 0
sum_by-zeros [] = refl
sum_by-zeros (x ∷ xs) = omega (arith, sum_by-cons (λ (_ : _). 0) x xs, sum_by-zeros xs)

-- the tasks of one queue count for what its entries count for
in_queue_sum : (h : Task → ℕ) (k : ℕ) (entries : List Entry) → sum_by h (in_queue k entries) ≡ sum_by (λ e. h record { ticket = e.ticket; queue = k; head = e.head }) entries
in_queue_sum h k [] = refl
in_queue_sum h k (e ∷ es) = omega (
  arith,
  sum_by-cons h record { ticket = e.ticket; queue = k; head = e.head } (in_queue k es),
  sum_by-cons (λ (x : Entry). h record { ticket = x.ticket; queue = k; head = x.head }) e es,
  in_queue_sum h k es,
)

flat_sum : {X : Type 0} (h : Task → ℕ) (k : ℕ) (entries : X → List Entry) (xs : List X) → sum_by h (in_queue k (flat_map entries xs)) ≡ sum_by (λ x. sum_by h (in_queue k (entries x))) xs
flat_sum h k entries [] = refl
flat_sum h k entries (x ∷ xs) = omega (
  arith,
  in_queue_sum h k (entries x ++ flat_map entries xs),
  sum_by-append (λ (e : Entry). h record { ticket = e.ticket; queue = k; head = e.head }) (entries x) (flat_map entries xs),
  in_queue_sum h k (entries x),
  in_queue_sum h k (flat_map entries xs),
  sum_by-cons (λ (y : _). sum_by h (in_queue k (entries y))) x xs,
  flat_sum h k entries xs,
)

module _ {J : Type 0} (head : J → Head) (h : Task → ℕ) (whole : ℕ) (passes : List PassSeen) (ends : List EndSeen) where
  -- in each queue what was pushed is what was popped and what was left
  one_balance : (k : ℕ) (q : SegId Global) (rest : List Entry) → Settled (gathered_at whole passes ends k q) rest
      → sum_by (λ p. sum_by h (in_queue k (at_queue p.pushed k))) passes ≡ sum_by (λ e. sum_by h (in_queue k (at_queue e.popped k))) ends + sum_by h (in_queue k rest)
  one_balance k q rest s =
      let f : Entry → ℕ = λ e. h record { ticket = e.ticket; queue = k; head = e.head } in
      let added = entries_of_map (λ (p : PassSeen). p.number) (λ (p : PassSeen). at_queue p.pushed k) passes in
      let taken = entries_of_map (λ (e : EndSeen). e.number) (λ (e : EndSeen). at_queue e.popped k) ends in
      omega (
        arith,
        flat_sum h k (λ (p : PassSeen). at_queue p.pushed k) passes,
        in_queue_sum h k (flat_map (λ (p : PassSeen). at_queue p.pushed k) passes),
        ap (sum_by f) added,
        s.balanced.sums f,
        sum_by-append f (entries_of (map (λ (e : EndSeen). share e.number (at_queue e.popped k)) ends)) rest,
        ap (sum_by f) taken,
        in_queue_sum h k (flat_map (λ (e : EndSeen). at_queue e.popped k) ends),
        flat_sum h k (λ (e : EndSeen). at_queue e.popped k) ends,
        in_queue_sum h k rest,
      )

  pub all_balance : (k : ℕ) (qs : List (SegId Global)) (rests : List (List (Queued (Placed J)))) → AllSettled head (gathered_from whole passes ends k qs) rests
      → sum_by (λ p. total h k (length qs) (at_queue p.pushed)) passes ≡ sum_by (λ e. total h k (length qs) (at_queue e.popped)) ends + sum_by h (upwards k (entries_in head rests))
  unfolding total
  all_balance k [] [] all = omega (arith, sum_by-zeros passes, sum_by-zeros ends)
  all_balance k [] (r ∷ rests) all = absurd all
  all_balance k (q ∷ qs) [] all = absurd all
  all_balance k (q ∷ qs) (r ∷ rests) all = omega (
    arith,
    sum_by-plus (λ (p : PassSeen). sum_by h (in_queue k (at_queue p.pushed k))) (λ (p : PassSeen). total h (k + 1) (length qs) (at_queue p.pushed)) passes,
    sum_by-plus (λ (e : EndSeen). sum_by h (in_queue k (at_queue e.popped k))) (λ (e : EndSeen). total h (k + 1) (length qs) (at_queue e.popped)) ends,
    one_balance k q (map (entry_of head) r) all.0,
    all_balance (k + 1) qs rests all.1,
    sum_by-append h (in_queue k (map (entry_of head) r)) (upwards (k + 1) (entries_in head rests)),
  )

-- the adds of all passes count for what they pushed on so many queues
pub passes_total : (h : Task → ℕ) (n : ℕ) (passes : List PassSeen) → All HasNoGap passes → All (λ p. length p.pushed ≡ n) passes → sum_by h (tasks_of passes) ≡ sum_by (λ p. total h 0 n (at_queue p.pushed)) passes
passes_total h n [] gaps lengths = refl
passes_total h n (p ∷ ps) gaps lengths =
    let as_many = All-head (λ (x : PassSeen). length x.pushed ≡ n) p ps lengths in
    omega (
      arith,
      sum_by-append h (numbered p.number 0 (adds_of p)) (tasks_of ps),
      (All-head HasNoGap p ps gaps).all.sums h,
      upwards_total h 0 p.pushed (at_queue p.pushed) (λ j. ap (at_queue p.pushed) (omega arith)),
      ap (λ (m : ℕ). total h 0 m (at_queue p.pushed)) as_many,
      sum_by-cons (λ (x : PassSeen). total h 0 n (at_queue x.pushed)) p ps,
      passes_total h n ps (All-tail HasNoGap p ps gaps) (All-tail (λ (x : PassSeen). length x.pushed ≡ n) p ps lengths),
    )

-- what all ends took counts for what they popped from so many queues
pub ends_total : (h : Task → ℕ) (n : ℕ) (ends : List EndSeen) → All RanWhatItTook ends → All (λ e. length e.popped ≡ n) ends
    → sum_by h (flat_map (λ e. tasks_taken (steps_by e)) ends) ≡ sum_by (λ e. total h 0 n (at_queue e.popped)) ends
ends_total h n [] ran_all lengths = refl
ends_total h n (e ∷ es) ran_all lengths =
    let as_many = All-head (λ (x : EndSeen). length x.popped ≡ n) e es lengths in
    omega (
      arith,
      sum_by-append h (tasks_taken (steps_by e)) (flat_map (λ (x : EndSeen). tasks_taken (steps_by x)) es),
      (All-head RanWhatItTook e es ran_all).all.sums h,
      upwards_total h 0 e.popped (at_queue e.popped) (λ j. ap (at_queue e.popped) (omega arith)),
      ap (λ (m : ℕ). total h 0 m (at_queue e.popped)) as_many,
      sum_by-cons (λ (x : EndSeen). total h 0 n (at_queue x.popped)) e es,
      ends_total h n es (All-tail RanWhatItTook e es ran_all) (All-tail (λ (x : EndSeen). length x.popped ≡ n) e es lengths),
    )

-- the records of all ends are of runs of what they took
pub ends_ran : (ends : List EndSeen) → All RanWhatItTook ends → AreRunsOf (flat_map (λ e. tasks_taken (steps_by e)) ends) (records_of ends)
ends_ran [] ran_all = tt
ends_ran (e ∷ es) ran_all = runs-append (tasks_taken (steps_by e)) (flat_map (λ (x : EndSeen). tasks_taken (steps_by x)) es) e.records (records_of es) (All-head RanWhatItTook e es ran_all).runs (ends_ran es (All-tail RanWhatItTook e es ran_all))

-- The account of an ending: what the ends took, with what was left from the highest queue to the lowest, is in any order all that the passes added.
pub all_accounted : {J : Type 0} (head : J → Head) (whole : ℕ) (passes : List PassSeen) (ends : List EndSeen) (qs : List (SegId Global)) (rests : List (List (Queued (Placed J)))) → All HasNoGap passes → All (λ p. length p.pushed ≡ length qs) passes
    → All RanWhatItTook ends → All (λ e. length e.popped ≡ length qs) ends → AllSettled head (gathered_from whole passes ends 0 qs) rests
    → IsSameInAnyOrder (flat_map (λ e. tasks_taken (steps_by e)) ends ++ downwards 0 (entries_in head rests)) (tasks_of passes)
all_accounted head whole passes ends qs rests gaps pushed ran_all popped settled = record {
  sums = λ h. omega (
    arith,
    sum_by-append h (flat_map (λ (e : EndSeen). tasks_taken (steps_by e)) ends) (downwards 0 (entries_in head rests)),
    ends_total h (length qs) ends ran_all popped,
    downwards_same h 0 (entries_in head rests),
    all_balance head h whole passes ends 0 qs rests settled,
    passes_total h (length qs) passes gaps pushed,
  );
}

-- all passes of each queue are here, where there are as many as the pool has
pub all_whole : (whole : ℕ) (passes : List PassSeen) (ends : List EndSeen) (k : ℕ) (qs : List (SegId Global)) → length passes + length ends ≡ whole → All IsWhole (gathered_from whole passes ends k qs)
all_whole whole passes ends k [] count = All-nil IsWhole
all_whole whole passes ends k (q ∷ qs) count = All-cons IsWhole (gathered_at whole passes ends k q) (gathered_from whole passes ends (k + 1) qs) count (all_whole whole passes ends (k + 1) qs count)

module _ {J : Type 0} (head : J → Head) where
  tasks_here : (k : ℕ) (rest : List (Queued (Placed J))) → map (task_of head) (map (back_of k) rest) ≡ in_queue k (map (entry_of head) rest)
  tasks_here k [] = refl
  tasks_here k (t ∷ rest) = ap (λ (l : List Task). record { ticket = t.ticket; queue = k; head = head t.job.job } ∷ l) (tasks_here k rest)

  -- what is handed back are the tasks that were left, from the highest queue to the lowest
  pub tasks_back : (k : ℕ) (rests : List (List (Queued (Placed J)))) → map (task_of head) (back_from k rests) ≡ downwards k (entries_in head rests)
  tasks_back k [] = refl
  tasks_back k (rest ∷ rests) = map-append (task_of head) (back_from (k + 1) rests) (map (back_of k) rest) ∙ (λ i. tasks_back (k + 1) rests i ++ tasks_here k rest i)
