-- Timers and the queries that wait, as queries come and go.
use Rattle.std.proofs.Common.{◌≡◌, ℕ, ◌+◌, ◌<◌, ◌≤◌, List, [], ◌∷◌, ◌++◌, length, Bool, true, false, ◌⊎◌, inl, inr, not, cond, Some, None, Result, Ok, Err, refl, sym, ap, ◌∙◌, subst, arith, map, filter, append-nil, length-append}
use Rattle.std.specs.Prelude.{◌==◌, OnOk, OnErr, slice_get}
use Rattle.std.specs.List.{All, AllByRecursion, find}
use Rattle.std.proofs.lemmas.Bool.{eqb-true, eq-eqb}
use Rattle.std.proofs.lemmas.List.{map-append}
use Rattle.std.proofs.lemmas.List.Elements.{All-cons, All-nil, filter-append}
use Rattle.fan_base.specs.declared.number.JobId.{JobId}
use Rattle.query_model.proofs.ListLaws.{all-append, all-filter, all-implies, all-passed, filter-map}
use Rattle.tick_wheel.specs.declared.timer.Timer.{Timer}
use Rattle.tick_wheel.specs.TimerList.{timer_at}
use Rattle.notify_queue.specs.Ends.{QueueId, Sending}
use Rattle.event_base.specs.Calls.{without_timer}
use Rattle.event_base.specs.Seen.{AgendaSeen, BaseSeen}
use Rattle.event_base.specs.declared.round.Round.{Round}
use Rattle.event_base.specs.declared.round.RoundMemory.{RoundMemory}
use Rattle.event_base.specs.Rounds.{HasNotBegun, IsCutRound, IsWholeRound, Phases}
use Rattle.query_timers.specs.declared.due.DueQuery.{DueQuery}
use Rattle.query_timers.specs.declared.query.DelayedQuery.{DelayedQuery}
use Rattle.query_timers.specs.Firing.{AreSilentEnds, AreTimersOf, Ascend, Fires, head_of, scheduled_on, timer_of, with_agenda}
use Rattle.query_timers.specs.Seen.{Ticks, TimersSeen, WaitersSeen, has_number, id_of, with_waiter}
use Rattle.query_timers.proofs.Lists.{filter-not-none, filter-whole}
use Rattle.query_timers.proofs.Numbers.{above_not}
use Rattle.query_timers.proofs.Rounds.{Ticked, ascend-filter, cut_round, whole_round}

ascend-push : (b n : ℕ) (queries : List DelayedQuery) (query : DelayedQuery) → Ascend b queries → AllByRecursion (λ (q : DelayedQuery). q.number ≤ n) queries
    → b < query.number → n < query.number → Ascend b (queries ++ query ∷ [])
ascend-push b n [] query h few lt more = (lt, tt)
ascend-push b n (x ∷ queries) query h few lt more = (h.0, ascend-push x.number n queries query h.1 few.1 (omega (arith, few.0)) more)

-- nobody has the next number
none_next : (a : AgendaSeen DueQuery) (w : WaitersSeen) → AreTimersOf a w → AllByRecursion (λ (t : Timer DueQuery). (t.id == w.asked + 1) ≡ false) a.wheel.timers
none_next a w are =
    subst (λ (l : List (Timer DueQuery)). AllByRecursion (λ (t : Timer DueQuery). (t.id == w.asked + 1) ≡ false) l) (sym are.timers) (go w.waiting are.few)
  where
    go : (queries : List DelayedQuery) → AllByRecursion (λ (q : DelayedQuery). q.number ≤ w.asked) queries
        → AllByRecursion (λ (t : Timer DueQuery). (t.id == w.asked + 1) ≡ false) (map (timer_of a.exec) queries)
    go [] h = tt
    go (x ∷ queries) h = (above_not (w.asked + 1) x.number (omega (arith, h.0)), go queries h.1)

find-none : {A : Type 0} (p : A → Bool) (xs : List A) → AllByRecursion (λ x. p x ≡ false) xs → find p xs ≡ None
find-none p [] h = refl
find-none {A = A} p (x ∷ xs) h = ap (λ (b : Bool). cond b (Some x) (find p xs)) h.0 ∙ find-none p xs h.1

pub next_is_free : (a : AgendaSeen DueQuery) (w : WaitersSeen) → AreTimersOf a w → timer_at (w.asked + 1) a.wheel.timers ≡ None
next_is_free a w are = find-none (λ (t : Timer DueQuery). t.id == w.asked + 1) a.wheel.timers (none_next a w are)

-- one more waits
pub linked_more : (a : AgendaSeen DueQuery) (w : WaitersSeen) (query : DelayedQuery) (delay : ℕ) → AreTimersOf a w → query.number ≡ w.asked + 1
    → query.due ≡ a.wheel.tick + delay → 1 ≤ delay → AreTimersOf (scheduled_on a query.number delay) (with_waiter w query)
linked_more a w query delay are number due some = record {
  timers = ap (λ (l : List (Timer DueQuery)). l ++ record { due = a.wheel.tick + delay; id = query.number; item = record { number = query.number; exec = a.exec } } ∷ []) are.timers
      ∙ (ap (λ (d : ℕ). map (timer_of a.exec) w.waiting ++ record { due = d; id = query.number; item = record { number = query.number; exec = a.exec } } ∷ []) (sym due)
      ∙ sym (map-append (timer_of a.exec) w.waiting (query ∷ [])));
  later = all-append (λ (q : DelayedQuery). a.wheel.tick < q.due) w.waiting (query ∷ []) are.later (omega arith, tt);
  ascend = ascend-push 0 w.asked w.waiting query are.ascend are.few (omega arith) (omega arith);
  few = all-append (λ (q : DelayedQuery). q.number ≤ w.asked + 1) w.waiting (query ∷ [])
      (all-implies (λ (q : DelayedQuery). q.number ≤ w.asked) (λ (q : DelayedQuery). q.number ≤ w.asked + 1) (λ q le. omega arith) w.waiting are.few) (omega arith, tt);
}

-- a timer that was scheduled for the next number is taken out again
pub linked_back : (a : AgendaSeen DueQuery) (w : WaitersSeen) (query : DelayedQuery) (delay : ℕ) → AreTimersOf a w → query.number ≡ w.asked + 1
    → AreTimersOf (without_timer (scheduled_on a query.number delay) (id_of query)) w
linked_back a w query delay are number =
    let t : Timer DueQuery = record { due = a.wheel.tick + delay; id = query.number; item = record { number = query.number; exec = a.exec } } in
    let keeps : Timer DueQuery → Bool = λ s. not (s.id == query.number) in
    let others : AllByRecursion (λ (s : Timer DueQuery). (s.id == query.number) ≡ false) a.wheel.timers =
    subst (λ (n : ℕ). AllByRecursion (λ (s : Timer DueQuery). (s.id == n) ≡ false) a.wheel.timers) (sym number) (none_next a w are) in
    let gone : filter keeps (t ∷ []) ≡ [] = ap (λ (b : Bool). cond (not b) (t ∷ []) []) (eq-eqb query.number query.number refl) in
    let back : filter keeps (a.wheel.timers ++ t ∷ []) ≡ a.wheel.timers =
    filter-append keeps a.wheel.timers (t ∷ [])
    ∙ (ap (λ (l : List (Timer DueQuery)). l ++ filter keeps (t ∷ [])) (filter-whole (λ (s : Timer DueQuery). s.id == query.number) a.wheel.timers others)
    ∙ (ap (λ (l : List (Timer DueQuery)). a.wheel.timers ++ l) gone ∙ append-nil a.wheel.timers)) in
    record { timers = back ∙ are.timers; later = are.later; ascend = are.ascend; few = are.few }

-- one waits no more
abbrev pub fewer : ℕ → WaitersSeen → WaitersSeen
fewer number w = record w { waiting = filter (λ q. not (has_number number q)) w.waiting }

pub linked_less : (a : AgendaSeen DueQuery) (w : WaitersSeen) (number : ℕ) → AreTimersOf a w → AreTimersOf (without_timer a (record { 0 = number })) (fewer number w)
linked_less a w number are = record {
  timers = ap (filter (λ (t : Timer DueQuery). not (t.id == number))) are.timers ∙ filter-map (λ (t : Timer DueQuery). not (t.id == number)) (timer_of a.exec) w.waiting;
  later = all-filter (λ (q : DelayedQuery). a.wheel.tick < q.due) (λ q. not (has_number number q)) w.waiting are.later;
  ascend = ascend-filter (λ q. not (has_number number q)) 0 w.waiting are.ascend;
  few = all-filter (λ (q : DelayedQuery). q.number ≤ w.asked) (λ q. not (has_number number q)) w.waiting are.few;
}

pub linked_none : (a : AgendaSeen DueQuery) (w : WaitersSeen) (number : ℕ) → AreTimersOf a w → [] ≡ filter (has_number number) w.waiting → AreTimersOf a (fewer number w)
linked_none a w number are none =
    subst (λ (l : List DelayedQuery). AreTimersOf a (record w { waiting = l })) (sym (filter-not-none (has_number number) w.waiting (sym none))) are

-- the one that was found has the number
pub found_number : (query : DelayedQuery) (queries : List DelayedQuery) (number : ℕ) → query ∷ [] ≡ filter (has_number number) queries → query.number ≡ number
found_number query queries number is =
    let all : AllByRecursion (λ q. has_number number q ≡ true) (query ∷ []) =
    subst (λ (l : List DelayedQuery). AllByRecursion (λ q. has_number number q ≡ true) l) (sym is) (all-passed (has_number number) queries) in
    eqb-true query.number number all.0

-- ends of posters

pub one_silent : (base : BaseSeen DueQuery) (end : Sending DueQuery) → base.queue.senders ≡ 1 → end.queue ≡ base.queue.queue → end.number ≡ 0 → end.sent ≡ []
    → AreSilentEnds base (end ∷ [])
one_silent base end one queue number sent = record {
  all = record {
    of_queue = All-cons (λ (e : Sending DueQuery). e.queue ≡ base.queue.queue) end [] queue (All-nil (λ (e : Sending DueQuery). e.queue ≡ base.queue.queue));
    each = λ s lt. (0, end, omega arith, refl, omega (arith, number, one));
    as_many = sym one;
  };
  silent = All-cons (λ (e : Sending DueQuery). e.sent ≡ []) end [] sent (All-nil (λ (e : Sending DueQuery). e.sent ≡ []));
}

-- a base with the same queue
pub still_silent : (old new : BaseSeen DueQuery) (ends : List (Sending DueQuery)) → AreSilentEnds old ends → new.queue.queue ≡ old.queue.queue → new.queue.senders ≡ old.queue.senders
    → AreSilentEnds new ends
still_silent old new ends are queue senders = record {
  all = record {
    of_queue = subst (λ (q : QueueId). All (λ (e : Sending DueQuery). e.queue ≡ q) ends) (sym queue) are.all.of_queue;
    each = λ s lt. are.all.each s (omega (arith, senders));
    as_many = are.all.as_many ∙ sym senders;
  };
  silent = are.silent;
}

-- what a round that was made, cut or not begun leaves
pub record RoundLeaves (w v : WaitersSeen) (old new : BaseSeen DueQuery) : Type 0 where
  pub are : AreTimersOf new.agenda v
  pub queue : new.queue.queue ≡ old.queue.queue
  pub senders : new.queue.senders ≡ old.queue.senders

pub whole_leaves : (ticks : ℕ) (w v : WaitersSeen) (old new : BaseSeen DueQuery) (round : Round) → AreTimersOf old.agenda w
    → ((did : Phases DueQuery) × IsWholeRound head_of Fires ticks w old round did v new) → RoundLeaves w v old new
whole_leaves ticks w v old new round are is = record {
  are = (whole_round ticks w v old new round is.0 are is.1).are;
  queue = is.1.took.same.0;
  senders = is.1.took.same.1;
}

pub memory_leaves : (ticks : ℕ) (w v : WaitersSeen) (old new : BaseSeen DueQuery) (fault : RoundMemory) → AreTimersOf old.agenda w
    → (HasNotBegun ticks w old fault v new ⊎ ((did : Phases DueQuery) × IsCutRound head_of Fires ticks w old fault did v new)) → RoundLeaves w v old new
memory_leaves ticks w v old new fault are (inl is) = record {
  are = subst (λ (b : BaseSeen DueQuery). AreTimersOf b.agenda v) (sym is.base) (subst (λ (u : WaitersSeen). AreTimersOf old.agenda u) (sym is.world) are);
  queue = ap (λ (b : BaseSeen DueQuery). b.queue.queue) is.base;
  senders = ap (λ (b : BaseSeen DueQuery). b.queue.senders) is.base;
}
memory_leaves ticks w v old new fault are (inr is) = record {
  are = cut_round ticks w v old new fault is.0 are is.1;
  queue = is.1.took.same.0;
  senders = is.1.took.same.1;
}

pub by_result : {A E : Type 0} (P Q G : Type 0) (r : Result A E) → OnOk r P → OnErr r Q → (P → G) → (Q → G) → G
by_result P Q G (Ok x) p q good bad = good p
by_result P Q G (Err e) p q good bad = bad q

-- what contracts see
abbrev pub seen_on : AgendaSeen DueQuery → WaitersSeen → ℕ → TimersSeen
seen_on a w homes = record { tick = a.wheel.tick; asked = w.asked; waiting = w.waiting; fired = w.fired; homes = homes }

pub ticked_seen : (n ticks homes : ℕ) (w v : WaitersSeen) (old new : AgendaSeen DueQuery) (s : TimersSeen) → n ≡ ticks → seen_on old w homes ≡ s → Ticked n (w, old) (v, new)
    → Ticks ticks s (seen_on new v homes)
ticked_seen n ticks homes w v old new s same is t =
    let made : Ticks n (seen_on old w homes) (seen_on new v homes) = record { tick = t.tick; fired = t.fired; waiting = t.waiting; asked = t.asked; homes = refl } in
    subst (λ (x : TimersSeen). Ticks ticks x (seen_on new v homes)) is (subst (λ (m : ℕ). Ticks m (seen_on old w homes) (seen_on new v homes)) same made)

-- both facts of a base and who waits on it
abbrev pub IsLinked : BaseSeen DueQuery → WaitersSeen → List (Sending DueQuery) → Type 0
IsLinked base w ends = AreTimersOf base.agenda w × AreSilentEnds base ends

same_queue : (base new : BaseSeen DueQuery) (agenda : AgendaSeen DueQuery) (ends : List (Sending DueQuery)) → AreSilentEnds base ends → new ≡ with_agenda base agenda → AreSilentEnds new ends
same_queue base new agenda ends are is = still_silent base new ends are (ap (λ (b : BaseSeen DueQuery). b.queue.queue) is) (ap (λ (b : BaseSeen DueQuery). b.queue.senders) is)

pub one_found : (base new : BaseSeen DueQuery) (w v : WaitersSeen) (ends : List (Sending DueQuery)) (number : ℕ) (query : DelayedQuery) (timer : JobId) → IsLinked base w ends
    → timer ≡ id_of query → query ∷ [] ≡ filter (has_number number) w.waiting → new ≡ with_agenda base (without_timer base.agenda timer) → v ≡ fewer number w → IsLinked new v ends
one_found base new w v ends number query timer are names those is less =
    let id : timer ≡ record { 0 = number } = names ∙ ap (λ (n : ℕ). let j : JobId = record { 0 = n } in j) (found_number query w.waiting number those) in
    let now : new ≡ with_agenda base (without_timer base.agenda (record { 0 = number })) = is ∙ ap (λ (j : JobId). with_agenda base (without_timer base.agenda j)) id in (
      subst (λ (b : BaseSeen DueQuery). AreTimersOf b.agenda v) (sym now) (subst (λ (u : WaitersSeen). AreTimersOf (without_timer base.agenda (record { 0 = number })) u) (sym less) (linked_less base.agenda w number are.0)),
      same_queue base new (without_timer base.agenda timer) ends are.1 is,
    )

pub none_found : (base : BaseSeen DueQuery) (w v : WaitersSeen) (ends : List (Sending DueQuery)) (number : ℕ) → IsLinked base w ends
    → [] ≡ filter (has_number number) w.waiting → v ≡ fewer number w → IsLinked base v ends
none_found base w v ends number are those less =
    (subst (λ (u : WaitersSeen). AreTimersOf base.agenda u) (sym less) (linked_none base.agenda w number are.0 those), are.1)

pub delayed_more : (base mid new : BaseSeen DueQuery) (w v : WaitersSeen) (ends : List (Sending DueQuery)) (query : DelayedQuery) (delay : ℕ) → IsLinked base w ends
    → query.number ≡ w.asked + 1 → query.due ≡ base.agenda.wheel.tick + delay → 1 ≤ delay → mid ≡ with_agenda base (scheduled_on base.agenda query.number delay)
    → (new ≡ mid) × (v ≡ with_waiter w query) → IsLinked new v ends
delayed_more base mid new w v ends query delay are number due some is more =
    let now : new ≡ with_agenda base (scheduled_on base.agenda query.number delay) = more.0 ∙ is in (
      subst (λ (b : BaseSeen DueQuery). AreTimersOf b.agenda v) (sym now)
          (subst (λ (u : WaitersSeen). AreTimersOf (scheduled_on base.agenda query.number delay) u) (sym more.1) (linked_more base.agenda w query delay are.0 number due some)),
      same_queue base new (scheduled_on base.agenda query.number delay) ends are.1 now,
    )

pub delayed_back : (base mid new : BaseSeen DueQuery) (w v : WaitersSeen) (ends : List (Sending DueQuery)) (query : DelayedQuery) (delay : ℕ) → IsLinked base w ends
    → query.number ≡ w.asked + 1 → mid ≡ with_agenda base (scheduled_on base.agenda query.number delay)
    → (new ≡ with_agenda mid (without_timer mid.agenda (id_of query))) × (v ≡ w) → IsLinked new v ends
delayed_back base mid new w v ends query delay are number is back =
    let a : AgendaSeen DueQuery = without_timer (scheduled_on base.agenda query.number delay) (id_of query) in
    let now : new ≡ with_agenda base a = back.0 ∙ ap (λ (b : BaseSeen DueQuery). with_agenda b (without_timer b.agenda (id_of query))) is in (
      subst (λ (b : BaseSeen DueQuery). AreTimersOf b.agenda v) (sym now) (subst (λ (u : WaitersSeen). AreTimersOf a u) (sym back.1) (linked_back base.agenda w query delay are.0 number)),
      same_queue base new a ends are.1 now,
    )

-- the only one of a list
pub only_one : {A : Type 0} (xs rest : List A) (y z : A) → xs ≡ rest ++ y ∷ [] → length xs ≡ 1 → slice_get xs 0 ≡ Some z → y ≡ z
only_one {A = A} xs [] y z is one at = let both : Some y ≡ Some z = ap (λ (l : List A). slice_get l 0) (sym is) ∙ at in cc
only_one xs (x ∷ rest) y z is one at = absurd (omega (arith, ap length is, length-append (x ∷ rest) (y ∷ [])))
