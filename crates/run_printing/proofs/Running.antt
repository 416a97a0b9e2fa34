-- Messages that ran one after another, and what became of them.
use Rattle.std.proofs.Common.{◌≡◌, ℕ, suc, ◌+◌, ◌≤◌, min, Bool, true, false, ◌||◌, cond, Option, List, [], ◌∷◌, ◌++◌, length, refl, sym, ap, ◌∙◌, subst, arith, append_assoc, append-nil}
use Rattle.std.proofs.lemmas.List.{length-map}
use Rattle.std.specs.Bool.{OnFalse, OnTrue}
use Rattle.std.specs.List.{list_any}
use Rattle.std.proofs.lemmas.List.Sums.{sum_by-cons}
use Rattle.fan_base.specs.Outside.{last_count}
use Rattle.fan_base.specs.declared.number.JobId.{JobId}
use Rattle.fan_base.specs.declared.number.Mark.{Mark}
use Rattle.query_model.specs.declared.line.Line.{Line}
use Rattle.core_word.specs.Count.{Counts}
use Rattle.job_trait.specs.declared.job.Head.{Head}
use Rattle.notify_queue.specs.declared.stamp.Stamped.{Stamped}
use Rattle.notify_queue.specs.Ends.{IsDry}
use Rattle.event_base.specs.Seen.{AgendaSeen, BaseSeen}
use Rattle.event_base.specs.declared.round.RoundMemory.{RoundMemory}
use Rattle.event_base.specs.Closing.{held_by}
use Rattle.event_base.specs.Looping.{IsCutLoop}
use Rattle.event_base.specs.Laws.{IsIdle, LeaveTheAgenda, RunsMessages}
use Rattle.event_base.specs.Turns.{LeavesAgenda, Place, Turn, TurnsThrough}
use Rattle.reply_order.specs.Orders.{next_of}
use Rattle.reply_printer.specs.Printing.{Placed, Prints}
use Rattle.run_printing.specs.declared.world.PrintWorld.{PrintWorld}
use Rattle.run_printing.specs.Ends.{HasPrinted, IsNewBase, WasCut}
use Rattle.run_printing.specs.Events.{Event, counted, fired_in, given_by, given_in, has_failed, has_fired, with_handed}
use Rattle.run_printing.specs.Worlds.{HasSameLoans, IsNewWorld, RunsEvent, RunsEvents, RunsOnBase, sink_of}

or_false : (b : Bool) → b ≡ b || false
or_false true = refl
or_false false = refl

or_or : (a b c : Bool) → (a || b) || c ≡ a || (b || c)
or_or true b c = refl
or_or false b c = refl

few_counted : (e : Event) (t : Counts) → t.handed ≤ last_count → (counted e t).handed ≤ last_count
few_counted (Event.answered place number reply) t few = omega arith
few_counted Event.failed t few = omega arith
few_counted (Event.cancelled place number) t few = few

none_handed : (t : Counts) → t.handed ≤ last_count → t ≡ with_handed t 0
none_handed t few = let same : t.handed ≡ min (t.handed + 0) last_count = omega arith in ap (λ (n : ℕ). record t { handed = n }) same

more_handed : (t : Counts) (a b : ℕ) → with_handed (with_handed t a) b ≡ with_handed t (a + b)
more_handed t a b =
    let same : min (min (t.handed + a) last_count + b) last_count ≡ min (t.handed + (a + b)) last_count = omega arith in
    ap (λ (n : ℕ). record t { handed = n }) same

-- one event, and then so many cores
event_handed : (e : Event) (t : Counts) (n : ℕ) → with_handed (counted e t) n ≡ with_handed t (cond (has_fired e) 1 0 + n)
event_handed (Event.answered place number reply) t n = more_handed t 1 n
event_handed Event.failed t n = more_handed t 1 n
event_handed (Event.cancelled place number) t n = let same : n ≡ 0 + n = omega arith in ap (with_handed t) same

module _ {K : Type 0} (lines : List Line) (holds : K → Option (List ℕ)) (faults : K → ℕ) where
  none_ran : (p : PrintWorld K) → p.tally.now.handed ≤ last_count → RunsEvents lines holds faults [] p p
  none_ran p few = record {
    are_of = tt;
    prints = λ given start h. subst (λ (g : List Placed). Prints lines g p.printer.now start (sink_of holds faults p)) (sym (append-nil given)) h;
    waits = λ before. before;
    missed = or_false p.missed;
    same = record { printer = refl; sink = refl; tally = refl };
    tally = none_handed p.tally.now few;
  }

  one_more : (events : List Event) (p m q : PrintWorld K) → (first : RunsEvent lines holds faults p m) → RunsEvents lines holds faults events m q
      → RunsEvents lines holds faults (first.event ∷ events) p q
  one_more events p m q first rest = record {
    are_of = (first.ran.is_of, rest.are_of);
    prints = λ given start h.
        subst (λ (g : List Placed). Prints lines g q.printer.now start (sink_of holds faults q)) (append_assoc given (given_by first.event) (given_in events))
        (rest.prints (given ++ given_by first.event) start (first.ran.did.prints given start h));
    waits = λ before. rest.waits (first.ran.did.waits before);
    missed = rest.missed ∙ (ap (λ (b : Bool). b || list_any has_failed events) first.ran.did.missed ∙ or_or p.missed (has_failed first.event) (list_any has_failed events));
    same = record { printer = rest.same.printer ∙ first.ran.did.same.printer; sink = rest.same.sink ∙ first.ran.did.same.sink; tally = rest.same.tally ∙ first.ran.did.same.tally };
    tally = rest.tally ∙ (ap (λ (t : Counts). with_handed t (fired_in events)) first.ran.tally
        ∙ (event_handed first.event p.tally.now (fired_in events)
        ∙ ap (with_handed p.tally.now) (sym (sum_by-cons (λ (e : Event). cond (has_fired e) 1 0) first.event events))));
  }

  -- what became of these messages
  record Became {J : Type 0} (turns : List (Turn J)) (p q : PrintWorld K) : Type 0 where
    events : List Event
    as_many : length events ≡ length turns
    ran : RunsEvents lines holds faults events p q

module _ {J K : Type 0} (lines : List Line) (holds : K → Option (List ℕ)) (faults : K → ℕ) where
  -- what a run of a message does
  abbrev ran : JobId → Place (PrintWorld K) J → Mark → Place (PrintWorld K) J → Type 0
  ran id p mark q = RunsOnBase lines holds faults p q

  became : (head : J → Head) (p q : Place (PrintWorld K) J) (turns : List (Turn J)) → p.0.tally.now.handed ≤ last_count
      → TurnsThrough LeavesAgenda head ran p turns q → Became lines holds faults turns p.0 q.0
  became head p q [] few all = record {
    events = [];
    as_many = refl;
    ran = subst (λ (w : PrintWorld K). RunsEvents lines holds faults [] p.0 w) (ap (λ (u : Place (PrintWorld K) J). u.0) all) (none_ran lines holds faults p.0 few);
  }
  became head p q (t ∷ ts) few all =
      let first : RunsEvent lines holds faults p.0 all.0.0 = all.1.ran.ran in
      let within : all.0.0.tally.now.handed ≤ last_count =
      subst (λ (c : Counts). c.handed ≤ last_count) (sym first.ran.tally) (few_counted first.event p.0.tally.now few) in
      let rest = became head all.0 q ts within all.2 in
      record {
        events = first.event ∷ rest.events;
        as_many = ap suc rest.as_many;
        ran = one_more lines holds faults rest.events p.0 all.0.0 q.0 first rest.ran;
      }

  pub leaves_the_agenda : LeaveTheAgenda ran
  leaves_the_agenda id p mark q r = r.agenda

-- a new base holds nothing
pub new_is_idle : {J : Type 0} (base : BaseSeen J) → IsNewBase base → IsIdle base.agenda
new_is_idle base new = subst (λ (b : BaseSeen _). IsIdle b.agenda) (sym new.is_new) (record { before = refl; loops = refl; later = refl; in_loop = refl; terminating = refl })

new_took_nothing : {J : Type 0} (base : BaseSeen J) → IsNewBase base → base.queue.taken ≡ []
new_took_nothing base new = ap (λ (b : BaseSeen _). b.queue.taken) new.is_new

new_holds_nothing : {J : Type 0} (base : BaseSeen J) → IsNewBase base → held_by base.agenda ≡ []
new_holds_nothing base new = ap (λ (b : BaseSeen _). held_by b.agenda) new.is_new

module _ {J K : Type 0} (head : J → Head) (lines : List Line) (holds : K → Option (List ℕ)) (faults : K → ℕ) (w v : PrintWorld K) (old new : BaseSeen J) (fresh : IsNewWorld w)
    (all : RunsMessages head (ran lines holds faults) w old v new) where
  messages : Became lines holds faults all.turns w v
  messages =
      let few : w.tally.now.handed ≤ last_count = subst (λ (c : Counts). c.handed ≤ last_count) (sym fresh.tally) (omega arith) in
      became lines holds faults head (w, old.agenda) (v, old.agenda) all.turns few all.ran.through

  pub same_loans : HasSameLoans w v
  same_loans = messages.ran.same

  -- a stage whose new base ran its messages from a new world to this one
  pub has_printed : (closed : Bool) → IsNewBase old → Prints lines [] w.printer.now (sink_of holds faults w) (sink_of holds faults w) → (closed ≡ true → IsDry new.queue)
      → HasPrinted lines (sink_of holds faults w) (sink_of holds faults v) (record { base = new; printer = v.printer.now; tally = v.tally.now; missed = v.missed; closed = closed })
  has_printed closed new_base prints dry =
      let took : length all.turns ≡ length all.took =
      sym (length-map all.turns (λ (t : Turn J). t.job)) ∙ (ap (λ (l : List J). length l) all.jobs ∙ length-map all.took (λ (x : Stamped J). x.message)) in
      let taken : new.queue.taken ≡ all.took = all.taken ∙ ap (λ (l : List (Stamped J)). l ++ all.took) (new_took_nothing old new_base) in
      record {
        events = messages.events;
        each = messages.as_many ∙ (took ∙ ap (λ (l : List (Stamped J)). length l) (sym taken));
        are_of = messages.ran.are_of;
        prints = messages.ran.prints [] (sink_of holds faults w) prints;
        up_to_date = messages.ran.waits (λ goes. fresh.printer.none (next_of w.printer.now.orderer));
        missed = messages.ran.missed ∙ ap (λ (b : Bool). b || list_any has_failed messages.events) fresh.missed;
        tally = messages.ran.tally ∙ ap (λ (c : Counts). with_handed c (fired_in messages.events)) fresh.tally;
        none_held = ap (λ (a : AgendaSeen J). held_by a) all.agenda ∙ new_holds_nothing old new_base;
        closed = dry;
      }

-- what is told of a flag that doesn't stand, and what follows from it
pub on_false : {P Q : Type 0} (b : Bool) → (P → Q) → OnFalse b P → OnFalse b Q
on_false true follows p = p
on_false false follows p = follows p

-- a base that was cut, run from a new world to this one, with what stands in that world as its stage
pub was_cut : {J K : Type 0} (head : J → Head) (lines : List Line) (holds : K → Option (List ℕ)) (faults : K → ℕ) (w v : PrintWorld K) (old new : BaseSeen J) (closed : Bool) → IsNewWorld w
    → ((fault : RoundMemory) × IsCutLoop head (ran lines holds faults) fault w old v new)
    → WasCut head lines holds faults w.sink.now v.sink.now old (record { base = new; printer = v.printer.now; tally = v.tally.now; missed = v.missed; closed = closed })
was_cut head lines holds faults w v old new closed fresh cut = record {
  fault = cut.0;
  start = w;
  end = v;
  is_new = fresh;
  sink = (refl, refl);
  kept = (refl, refl, refl);
  cut = cut.1;
}

-- what is told of a flag that stands
pub on_true : {P : Type 0} (b : Bool) → OnTrue b P → b ≡ true → P
on_true true p is = p
on_true false p is = absurd cc
