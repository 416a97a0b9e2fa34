-- One add more.
use Rattle.std.proofs.Common.{◌≡◌, ◌≢◌, ℕ, zero, suc, ◌+◌, ◌<◌, ◌≤◌, cond, eqb, Bool, true, false, List, [], ◌∷◌, ◌++◌, length, length-append, map, set, Option, Some, refl, sym, ap, ◌∙◌, subst, append_assoc, arith, eq-eqb, ne_eqb}
use Rattle.std.specs.Prelude.{slice_get, slice_index_or, unwrap_or}
use Rattle.std.specs.List.{All, filter, sum_by, range_with_len}
use Rattle.std.specs.declared.alloc.Global.{Global}
use Rattle.std.proofs.lemmas.List.{map-append, length-map, length-set}
use Rattle.std.proofs.lemmas.List.Elements.{filter-append, All-append, All-cons, All-head, All-tail, All-nil, All-set, All-weaker}
use Rattle.std.proofs.lemmas.List.FromFn.{map-range_with_len_more, length-map-range_with_len}
use Rattle.std.proofs.lemmas.List.Sums.{sum_by-append, sum_by-cons, sum_by_push}
use Rattle.std.proofs.lemmas.Option.{slice_get_within}
use Rattle.crossbeam_queue.specs.SegTies.{SegId}
use Rattle.pool_model.specs.declared.task.Ticket.{Ticket}
use Rattle.pool_model.specs.declared.task.Entry.{Entry}
use Rattle.pool_model.specs.Passes.{adds_of, add_with, first_add, pushed_by}
use Rattle.pool_model.specs.Seen.{PassSeen, at_queue}
use Rattle.pool_model.specs.Tasks.{Task, Add, add_of, in_queue, upwards, numbered}
use Rattle.pool_model.proofs.Lists.{All-front}
use Rattle.task_queue.specs.Seen.{AdderSeen}
use Rattle.prio_pool.specs.Adders.{AreAdds, MayPush, PushedAt}
use Rattle.prio_pool.proofs.Lists.{all_get, entry_more, map_same}

abbrev pub task_at : ℕ → Entry → Task
task_at q e = record { ticket = e.ticket; queue = q; head = e.head }

-- one task more in one queue
pub record OneMore (task : Task) (old new : List Task) : Type 0 where
  pub front : List Task
  pub behind : List Task
  pub old_is : old ≡ front ++ behind
  pub new_is : new ≡ front ++ task ∷ behind

pub upwards_more : (first : ℕ) (lists : List (List Entry)) (k q : ℕ) (e : Entry) → k < length lists → q ≡ first + k
    → OneMore record { ticket = e.ticket; queue = q; head = e.head } (upwards first lists) (upwards first (set lists k (at_queue lists k ++ e ∷ [])))
upwards_more first [] k q e within is = absurd (omega (arith, within))
upwards_more first (l ∷ ls) zero q e within is =
    let same : first ≡ q = omega (arith, is) in
    record {
      front = in_queue first l;
      behind = upwards (first + 1) ls;
      old_is = refl;
      new_is = ap (λ (xs : List Task). xs ++ upwards (first + 1) ls) (map-append (λ (x : Entry). record { ticket = x.ticket; queue = first; head = x.head }) l (e ∷ []))
          ∙ (append_assoc (in_queue first l) (record { ticket = e.ticket; queue = first; head = e.head } ∷ []) (upwards (first + 1) ls)
          ∙ ap (λ (n : ℕ). in_queue first l ++ record { ticket = e.ticket; queue = n; head = e.head } ∷ upwards (first + 1) ls) same);
    }
upwards_more first (l ∷ ls) (suc k) q e within is =
    let rest = upwards_more (first + 1) ls k q e (omega (arith, within)) (omega (arith, is)) in
    record {
      front = in_queue first l ++ rest.front;
      behind = rest.behind;
      old_is = ap (λ (xs : List Task). in_queue first l ++ xs) rest.old_is ∙ sym (append_assoc (in_queue first l) rest.front rest.behind);
      new_is = ap (λ (xs : List Task). in_queue first l ++ xs) rest.new_is ∙ sym (append_assoc (in_queue first l) rest.front (record { ticket = e.ticket; queue = q; head = e.head } ∷ rest.behind));
    }

module _ (task : Task) (old new : List Task) (m : OneMore task old new) where
  pub more_all : (P : Task → Type 0) → All P old → P task → All P new
  more_all P all p =
      let both = subst (All P) m.old_is all in
      subst (All P) (sym m.new_is) (All-append P m.front (task ∷ m.behind) (All-front P m.front m.behind both) (All-cons P task m.behind p (behind_all m.front both)))
    where
      behind_all : (xs : List Task) → All P (xs ++ m.behind) → All P m.behind
      behind_all [] a = a
      behind_all (x ∷ xs) a = behind_all xs (All-tail P x (xs ++ m.behind) a)

  pub more_sum : (h : Task → ℕ) → sum_by h new ≡ sum_by h old + h task
  more_sum h = omega (
    arith,
    ap (sum_by h) m.new_is,
    ap (sum_by h) m.old_is,
    sum_by-append h m.front m.behind,
    sum_by-append h m.front (task ∷ m.behind),
    sum_by-cons h task m.behind,
  )

  pub more_length : length new ≡ length old + 1
  more_length = omega (arith, ap length m.new_is, ap length m.old_is, length-append m.front m.behind, length-append m.front (task ∷ m.behind))

  pub more_filter_other : (p : Task → Bool) → p task ≡ false → filter p new ≡ filter p old
  more_filter_other p fails =
      ap (filter p) m.new_is
      ∙ (filter-append p m.front (task ∷ m.behind)
      ∙ (ap (λ (b : Bool). filter p m.front ++ cond b (task ∷ filter p m.behind) (filter p m.behind)) fails
      ∙ (sym (filter-append p m.front m.behind) ∙ sym (ap (filter p) m.old_is))))

none_pass : (p : Task → Bool) (xs : List Task) → All (λ t. p t ≡ false) xs → filter p xs ≡ []
none_pass p [] all = refl
none_pass p (x ∷ xs) all =
    let fails : p x ≡ false = All-head (λ (t : Task). p t ≡ false) x xs all in
    ap (λ (b : Bool). cond b (x ∷ filter p xs) (filter p xs)) fails ∙ none_pass p xs (All-tail (λ (t : Task). p t ≡ false) x xs all)

abbrev with_index : ℕ → Task → Bool
with_index i t = eqb t.ticket.index i

module _ (task : Task) (old new : List Task) (m : OneMore task old new) where
  -- of an index that no task had before, the new one is the only one
  more_filter_new : (p : Task → Bool) → All (λ t. p t ≡ false) old → p task ≡ true → filter p new ≡ task ∷ []
  more_filter_new p none yes_here =
      let front = none_pass p m.front (All-front (λ (t : Task). p t ≡ false) m.front m.behind (subst (All (λ (t : Task). p t ≡ false)) m.old_is none)) in
      let all = filter-append p m.front m.behind in
      let empty : filter p m.front ++ filter p m.behind ≡ [] = sym all ∙ (sym (ap (filter p) m.old_is) ∙ none_pass p old none) in
      let behind : filter p m.behind ≡ [] = sym (ap (λ (l : List Task). l ++ filter p m.behind) front) ∙ empty in
      ap (filter p) m.new_is
      ∙ (filter-append p m.front (task ∷ m.behind)
      ∙ (ap (λ (l : List Task). l ++ filter p (task ∷ m.behind)) front
      ∙ (ap (λ (b : Bool). cond b (task ∷ filter p m.behind) (filter p m.behind)) yes_here ∙ ap (λ (l : List Task). task ∷ l) behind)))

  same_below : (a n : ℕ) → a + n ≤ task.ticket.index → map (add_with new) (range_with_len a n) ≡ map (add_with old) (range_with_len a n)
  same_below a zero le = refl
  same_below a (suc n) le =
      let other : task.ticket.index ≢ a = λ e. omega (arith, le, e) in
      let here = ap first_add (more_filter_other task old new m (with_index a) (ne_eqb task.ticket.index a other)) in
      let rest = same_below (a + 1) n (omega (arith, le)) in
      (λ i. here i ∷ rest i)

  adds_longer : (count : ℕ) → count ≡ length old → task.ticket.index ≡ count → All (λ t. t.ticket.index < count) old
      → map (add_with new) (range_with_len 0 (length new)) ≡ map (add_with old) (range_with_len 0 (length old)) ++ add_of task ∷ []
  adds_longer count is own below =
      let n = length old in
      let none = All-weaker (λ (t : Task). t.ticket.index < count) (λ (t : Task). with_index count t ≡ false) (λ t lt. ne_eqb t.ticket.index count (λ e. omega (arith, lt, e))) old below in
      let last : add_with new count ≡ add_of task = ap first_add (more_filter_new (with_index count) none (eq-eqb task.ticket.index count own)) in
      ap (λ (k : ℕ). map (add_with new) (range_with_len 0 k)) (more_length task old new m)
      ∙ (map-range_with_len_more (add_with new) 0 n count (omega (arith, is))
      ∙ (λ i. same_below 0 n (omega (arith, is, own)) i ++ last i ∷ []))

numbered-snoc : (adder first k : ℕ) (adds : List Add) (x : Add) → k ≡ first + length adds → numbered adder first (adds ++ x ∷ []) ≡ numbered adder first adds ++ record { ticket = record { adder = adder; index = k }; queue = x.queue; head = x.head } ∷ []
numbered-snoc adder first k [] x is = let same : first ≡ k = omega (arith, is) in ap (λ (n : ℕ). record { ticket = record { adder = adder; index = n }; queue = x.queue; head = x.head } ∷ []) same
numbered-snoc adder first k (y ∷ ys) x is =
    ap (λ (l : List Task). record { ticket = record { adder = adder; index = first }; queue = y.queue; head = y.head } ∷ l) (numbered-snoc adder (first + 1) k ys x (omega (arith, is)))

length-adds : (p : PassSeen) → length (adds_of p) ≡ length (pushed_by p)
length-adds p = length-map-range_with_len (add_with (pushed_by p)) 0 (length (pushed_by p))

pub adds_count : (count : ℕ) (p : PassSeen) → AreAdds count p → count ≡ length (adds_of p)
adds_count count p are = are.count_is ∙ sym (length-adds p)

-- the pass adds one more
pub record MoreAdds (count : ℕ) (p q : PassSeen) (x : Add) : Type 0 where
  pub are : AreAdds (count + 1) q
  pub adds : adds_of q ≡ adds_of p ++ x ∷ []

pub adds_more : (count : ℕ) (p : PassSeen) (k : ℕ) (e : Entry) → k < length p.pushed → AreAdds count p → e.ticket ≡ record { adder = p.number; index = count }
    → MoreAdds count p (record p { pushed = set p.pushed k (at_queue p.pushed k ++ e ∷ []) }) record { queue = k; head = e.head }
adds_more count p k e within are ticket =
    let q : PassSeen = record p { pushed = set p.pushed k (at_queue p.pushed k ++ e ∷ []) } in
    let task : Task = record { ticket = e.ticket; queue = k; head = e.head } in
    let x : Add = record { queue = k; head = e.head } in
    let m : OneMore task (pushed_by p) (pushed_by q) = upwards_more 0 p.pushed k k e within (omega arith) in
    let index : e.ticket.index ≡ count = ap (λ (t : Ticket). t.index) ticket in
    let number : e.ticket.adder ≡ p.number = ap (λ (t : Ticket). t.adder) ticket in
    let adds : adds_of q ≡ adds_of p ++ x ∷ [] = adds_longer task (pushed_by p) (pushed_by q) m count are.count_is index are.below in
    let is : task ≡ record { ticket = record { adder = p.number; index = count }; queue = k; head = e.head } = (λ i. record { ticket = ticket i; queue = k; head = e.head }) in
    record {
      are = record {
        numbers = more_all task (pushed_by p) (pushed_by q) m (λ t. t.ticket.adder ≡ p.number) are.numbers number;
        below = more_all task (pushed_by p) (pushed_by q) m (λ t. t.ticket.index < count + 1) (All-weaker (λ (t : Task). t.ticket.index < count) (λ (t : Task). t.ticket.index < count + 1) (λ t lt. omega (arith, lt)) (pushed_by p) are.below) (omega (arith, index));
        count_is = omega (arith, are.count_is, more_length task (pushed_by p) (pushed_by q) m);
        all = record {
          sums = λ h. omega (
            arith,
            ap (λ (l : List Add). sum_by h (numbered p.number 0 l)) adds,
            ap (sum_by h) (numbered-snoc p.number 0 count (adds_of p) x (omega (arith, adds_count count p are))),
            sum_by_push h (numbered p.number 0 (adds_of p)) record { ticket = record { adder = p.number; index = count }; queue = k; head = e.head },
            ap h is,
            are.all.sums h,
            more_sum task (pushed_by p) (pushed_by q) m h,
          );
        };
      };
      adds = adds;
    }

-- the pass of this queue may push the next task
pub at_get : {X : Type 0} (xs : List X) (k : ℕ) → k < length xs → (x : X) × (slice_get xs k ≡ Some x)
at_get [] k within = absurd (omega (arith, within))
at_get (x ∷ xs) zero within = (x, refl)
at_get (x ∷ xs) (suc k) within = at_get xs k (omega (arith, within))

-- what one queue's pass pushed is among all that was pushed
all_in : (P : Task → Type 0) (first : ℕ) (items : List AdderSeen) (k : ℕ) (a : AdderSeen) → slice_get items k ≡ Some a → All P (upwards first (map (λ (p : AdderSeen). p.pushed) items)) → All P (in_queue (first + k) a.pushed)
all_in P first [] k a at all = cc
all_in P first (x ∷ xs) zero a at all =
    let is : x ≡ a = ap (λ (o : Option AdderSeen). unwrap_or o x) at in
    let front = All-front P (in_queue first x.pushed) (upwards (first + 1) (map (λ (p : AdderSeen). p.pushed) xs)) all in
    let zero_more : first ≡ first + 0 = omega arith in
    subst (λ (n : ℕ). All P (in_queue n a.pushed)) zero_more (subst (λ (p : AdderSeen). All P (in_queue first p.pushed)) is front)
all_in P first (x ∷ xs) (suc k) a at all =
    let rest = all_in P (first + 1) xs k a at (behind (in_queue first x.pushed) (upwards (first + 1) (map (λ (p : AdderSeen). p.pushed) xs)) all) in
    let next : (first + 1) + k ≡ first + suc k = omega arith in
    subst (λ (n : ℕ). All P (in_queue n a.pushed)) next rest
  where
    behind : (ys zs : List Task) → All P (ys ++ zs) → All P zs
    behind [] zs a = a
    behind (y ∷ ys) zs a = behind ys zs (All-tail P y (ys ++ zs) a)

entries_below : (count q : ℕ) (entries : List Entry) → All (λ t. t.ticket.index < count) (in_queue q entries) → All (λ e. e.ticket.index < count) entries
entries_below count q [] all = All-nil (λ (e : Entry). e.ticket.index < count)
entries_below count q (e ∷ es) all = All-cons (λ (x : Entry). x.ticket.index < count) e es
    (All-head (λ (t : Task). t.ticket.index < count) record { ticket = e.ticket; queue = q; head = e.head } (in_queue q es) all)
    (entries_below count q es (All-tail (λ (t : Task). t.ticket.index < count) record { ticket = e.ticket; queue = q; head = e.head } (in_queue q es) all))

one_is_short : (first : ℕ) (items : List AdderSeen) (k : ℕ) (a : AdderSeen) → slice_get items k ≡ Some a → length a.pushed ≤ length (upwards first (map (λ (p : AdderSeen). p.pushed) items))
one_is_short first [] k a at = cc
one_is_short first (x ∷ xs) zero a at =
    let is : length x.pushed ≡ length a.pushed = ap (λ (p : AdderSeen). length p.pushed) (ap (λ (o : Option AdderSeen). unwrap_or o x) at) in
    let rest = upwards (first + 1) (map (λ (p : AdderSeen). p.pushed) xs) in
    omega (arith, is, length-append (in_queue first x.pushed) rest, length-map x.pushed (λ (e : Entry). task_at first e))
one_is_short first (x ∷ xs) (suc k) a at =
    let rest = upwards (first + 1) (map (λ (p : AdderSeen). p.pushed) xs) in
    omega (arith, one_is_short (first + 1) xs k a at, length-append (in_queue first x.pushed) rest)

pub may_push : (items : List AdderSeen) (p : PassSeen) (passes count k : ℕ) (queue : SegId Global) (ticket : Ticket) → p.pushed ≡ map (λ (a : AdderSeen). a.pushed) items → p.pool.queues ≡ map (λ (a : AdderSeen). a.queue) items
    → All (λ a. (a.passes ≡ passes) × (a.number ≡ p.number)) items → AreAdds count p → k < length items → slice_index_or p.pool.queues k queue ≡ queue
    → ticket ≡ record { adder = p.number; index = count } → count < 4294967295 → MayPush queue items k ticket
may_push items p passes count k queue ticket pushed queues each are within of is few =
    let x = at_get items k within in
    let a = x.0 in
    let own = all_get (λ (b : AdderSeen). (b.passes ≡ passes) × (b.number ≡ p.number)) items k a each x.1 in
    let index : ticket.index ≡ count = ap (λ (t : Ticket). t.index) is in
    let all = all_in (λ (t : Task). t.ticket.index < count) 0 items k a x.1 (subst (λ (l : List (List Entry)). All (λ (t : Task). t.ticket.index < count) (upwards 0 l)) pushed are.below) in
    record {
      adder = a;
      at = x.1;
      of_queue = queue_at items k a queue x.1 (subst (λ (l : List (SegId Global)). slice_index_or l k queue ≡ queue) queues of);
      own = ap (λ (t : Ticket). t.adder) is ∙ sym own.1;
      above = All-weaker (λ (e : Entry). e.ticket.index < count) (λ (e : Entry). e.ticket.index < ticket.index) (λ e lt. omega (arith, lt, index)) a.pushed (entries_below count (0 + k) a.pushed all);
      room = omega (arith, few, are.count_is, one_is_short 0 items k a x.1, ap (λ (l : List (List Entry)). length (upwards 0 l)) pushed);
    }
  where
    queue_at : (xs : List AdderSeen) (k : ℕ) (a : AdderSeen) (q : SegId Global) → slice_get xs k ≡ Some a → slice_index_or (map (λ (p : AdderSeen). p.queue) xs) k q ≡ q → a.queue ≡ q
    queue_at [] k a q at is = cc
    queue_at (x ∷ xs) zero a q at is = sym (ap (λ (p : AdderSeen). p.queue) (ap (λ (o : Option AdderSeen). unwrap_or o x) at)) ∙ is
    queue_at (x ∷ xs) (suc k) a q at is = queue_at xs k a q at is

-- the passes of each queue, where one pushed more
pub record Now (p : PassSeen) (count passes k : ℕ) (e : Entry) (items new : List AdderSeen) : Type 0 where
  pub queues : map (λ (a : AdderSeen). a.queue) new ≡ map (λ (a : AdderSeen). a.queue) items
  pub pushed : map (λ (a : AdderSeen). a.pushed) new ≡ set (map (λ (a : AdderSeen). a.pushed) items) k (at_queue (map (λ (a : AdderSeen). a.pushed) items) k ++ e ∷ [])
  pub each : All (λ (a : AdderSeen). (a.passes ≡ passes) × (a.number ≡ p.number)) new
  pub as_many : length new ≡ length items
  pub more : MoreAdds count p (record p { pushed = set p.pushed k (at_queue p.pushed k ++ e ∷ []) }) record { queue = k; head = e.head }

pub now_is : (p : PassSeen) (count passes k : ℕ) (e : Entry) (items new : List AdderSeen) → p.pushed ≡ map (λ (a : AdderSeen). a.pushed) items → All (λ a. (a.passes ≡ passes) × (a.number ≡ p.number)) items
    → PushedAt items k e new → AreAdds count p → e.ticket ≡ record { adder = p.number; index = count } → Now p count passes k e items new
now_is p count passes k e items new pushed each did are ticket =
    let a = did.adder in
    let b : AdderSeen = record a { pushed = a.pushed ++ e ∷ [] } in
    let own = all_get (λ (x : AdderSeen). (x.passes ≡ passes) × (x.number ≡ p.number)) items k a each did.at in
    let within : k < length p.pushed = omega (arith, slice_get_within items k a did.at, ap length pushed, length-map items (λ (x : AdderSeen). x.pushed)) in
    record {
      queues = ap (map (λ (x : AdderSeen). x.queue)) did.new_is ∙ map_same (λ (x : AdderSeen). x.queue) items k a b did.at refl;
      pushed = ap (map (λ (x : AdderSeen). x.pushed)) did.new_is ∙ entry_more (λ (x : AdderSeen). x.pushed) items k a b e did.at refl;
      each = subst (All (λ (x : AdderSeen). (x.passes ≡ passes) × (x.number ≡ p.number))) (sym did.new_is) (All-set (λ (x : AdderSeen). (x.passes ≡ passes) × (x.number ≡ p.number)) items k b own each);
      as_many = ap length did.new_is ∙ length-set items k b;
      more = adds_more count p k e within are ticket;
    }
