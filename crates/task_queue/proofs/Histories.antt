-- A history that gets longer by one event.
use Rattle.std.proofs.Common.{◌≡◌, ◌≢◌, ℕ, suc, ◌+◌, ◌<◌, ◌≤◌, cond, eqb, Bool, List, [], ◌∷◌, ◌++◌, length, take, refl, sym, ap, ◌∙◌, subst, append_assoc, append-nil, arith}
use Rattle.std.specs.List.{All, filter, sum_by}
use Rattle.std.proofs.lemmas.Bool.{eq-eqb, ne_eqb}
use Rattle.std.proofs.lemmas.List.{take-append-le, take_all, map-append, length-append}
use Rattle.std.proofs.lemmas.List.Elements.{filter-append, All-cons, All-head, All-tail}
use Rattle.std.proofs.lemmas.List.Sums.{sum_by-cons}
use mathlib.Core.List.{IsPrefix}
use mathlib.Core.Logic.{dite}
use native.Mathlib.Decide.{dec_le, ℕ_discrete}
use Rattle.pool_model.specs.declared.task.Ticket.{Ticket}
use Rattle.pool_model.specs.declared.task.Entry.{Entry}
use Rattle.pool_model.specs.History.{Event, accepted, taken, left, accepts, takes, lefts, outs, accepted_by, taken_by, PoolHistory}
use Rattle.pool_model.specs.Tickets.{IsBefore, Ascend, tickets_of}
use Rattle.pool_model.proofs.Histories.{accepts-append, out_in_order}
use Rattle.task_queue.proofs.Tickets.{ascend-snoc, behind}

pub takes-append : (h k : List Event) → takes (h ++ k) ≡ takes h ++ takes k
takes-append [] k = refl
takes-append (accepted e ∷ h) k = takes-append h k
takes-append (taken w e ∷ h) k = ap (λ (l : List Entry). e ∷ l) (takes-append h k)
takes-append (left e ∷ h) k = takes-append h k

pub lefts-append : (h k : List Event) → lefts (h ++ k) ≡ lefts h ++ lefts k
lefts-append [] k = refl
lefts-append (accepted e ∷ h) k = lefts-append h k
lefts-append (taken w e ∷ h) k = lefts-append h k
lefts-append (left e ∷ h) k = ap (λ (l : List Entry). e ∷ l) (lefts-append h k)

pub outs-append : (h k : List Event) → outs (h ++ k) ≡ outs h ++ outs k
outs-append [] k = refl
outs-append (accepted e ∷ h) k = outs-append h k
outs-append (taken w e ∷ h) k = ap (λ (l : List Entry). e ∷ l) (outs-append h k)
outs-append (left e ∷ h) k = ap (λ (l : List Entry). e ∷ l) (outs-append h k)

pub taken_by-append : (n : ℕ) (h k : List Event) → taken_by n (h ++ k) ≡ taken_by n h ++ taken_by n k
taken_by-append n [] k = refl
taken_by-append n (accepted e ∷ h) k = taken_by-append n h k
taken_by-append n (taken w e ∷ h) k = dite (ℕ_discrete w n)
    (λ same.
    let b = eq-eqb w n same in
    ap (λ (c : Bool). cond c (e ∷ taken_by n (h ++ k)) (taken_by n (h ++ k))) b ∙ (ap (λ (l : List Entry). e ∷ l) (taken_by-append n h k) ∙ sym (ap (λ (c : Bool). cond c (e ∷ taken_by n h) (taken_by n h) ++ taken_by n k) b)))
    (λ other.
    let b = ne_eqb w n other in
    ap (λ (c : Bool). cond c (e ∷ taken_by n (h ++ k)) (taken_by n (h ++ k))) b ∙ (taken_by-append n h k ∙ sym (ap (λ (c : Bool). cond c (e ∷ taken_by n h) (taken_by n h) ++ taken_by n k) b)))
taken_by-append n (left e ∷ h) k = taken_by-append n h k

pub accepted_by-append : (a : ℕ) (h k : List Event) → accepted_by a (h ++ k) ≡ accepted_by a h ++ accepted_by a k
accepted_by-append a h k = ap (filter (λ (e : Entry). eqb e.ticket.adder a)) (accepts-append h k) ∙ filter-append (λ (e : Entry). eqb e.ticket.adder a) (accepts h) (accepts k)

-- one accept more, by this adder or by another
pub accepted_by-same : (a : ℕ) (h : List Event) (e : Entry) → e.ticket.adder ≡ a → accepted_by a (h ++ accepted e ∷ []) ≡ accepted_by a h ++ e ∷ []
accepted_by-same a h e same = accepted_by-append a h (accepted e ∷ []) ∙ ap (λ (b : Bool). accepted_by a h ++ cond b (e ∷ []) []) (eq-eqb e.ticket.adder a same)

pub accepted_by-other : (a : ℕ) (h : List Event) (e : Entry) → e.ticket.adder ≢ a → accepted_by a (h ++ accepted e ∷ []) ≡ accepted_by a h
accepted_by-other a h e other = accepted_by-append a h (accepted e ∷ []) ∙ (ap (λ (b : Bool). accepted_by a h ++ cond b (e ∷ []) []) (ne_eqb e.ticket.adder a other) ∙ append-nil (accepted_by a h))

-- one take more, by this worker or by another
pub taken_by-same : (n : ℕ) (h : List Event) (e : Entry) → taken_by n (h ++ taken n e ∷ []) ≡ taken_by n h ++ e ∷ []
taken_by-same n h e = taken_by-append n h (taken n e ∷ []) ∙ ap (λ (b : Bool). taken_by n h ++ cond b (e ∷ []) []) (eq-eqb n n refl)

pub taken_by-other : (n w : ℕ) (h : List Event) (e : Entry) → w ≢ n → taken_by n (h ++ taken w e ∷ []) ≡ taken_by n h
taken_by-other n w h e other = taken_by-append n h (taken w e ∷ []) ∙ (ap (λ (b : Bool). taken_by n h ++ cond b (e ∷ []) []) (ne_eqb w n other) ∙ append-nil (taken_by n h))

-- up to the last event nothing is new
moments : (h : List Event) (e : Event) → ((n : ℕ) → IsPrefix (outs (take n h)) (accepts (take n h))) → IsPrefix (outs (h ++ e ∷ [])) (accepts (h ++ e ∷ []))
    → (n : ℕ) → IsPrefix (outs (take n (h ++ e ∷ []))) (accepts (take n (h ++ e ∷ [])))
moments h e before last n = dite (dec_le n (length h))
    (λ le. let f = take-append-le n h (e ∷ []) le in rw f (before n))
    (λ gt. let f = take_all n (h ++ e ∷ []) (omega (arith, length-append h (e ∷ []), gt)) in rw f last)

-- a task is accepted whose index is above those that its adder had
pub lawful_accept : (h : List Event) (e : Entry) → PoolHistory h → All (λ x. x.ticket.index < e.ticket.index) (accepted_by e.ticket.adder h) → PoolHistory (h ++ accepted e ∷ [])
lawful_accept h e lawful below =
    let is : accepts (h ++ accepted e ∷ []) ≡ accepts h ++ e ∷ [] = accepts-append h (accepted e ∷ []) in
    let out : outs (h ++ accepted e ∷ []) ≡ outs h = outs-append h (accepted e ∷ []) ∙ append-nil (outs h) in
    let p = out_in_order h lawful in
    record {
      ascend = rw (is, map-append (λ (x : Entry). x.ticket) (accepts h) (e ∷ [])) (ascend-snoc (tickets_of (accepts h)) e.ticket lawful.ascend (behind (accepts h) e below));
      in_order = moments h (accepted e) lawful.in_order (rw (is, out) (p.0 ++ e ∷ [], sym (append_assoc (outs h) p.0 (e ∷ [])) ∙ ap (λ (l : List Entry). l ++ e ∷ []) p.1));
    }

-- the task that waits first is taken, or is left
pub lawful_take : (h : List Event) (w : ℕ) (e : Entry) (rest : List Entry) → PoolHistory h → accepts h ≡ outs h ++ e ∷ rest → PoolHistory (h ++ taken w e ∷ [])
lawful_take h w e rest lawful first =
    let is : accepts (h ++ taken w e ∷ []) ≡ accepts h = accepts-append h (taken w e ∷ []) ∙ append-nil (accepts h) in
    let out : outs (h ++ taken w e ∷ []) ≡ outs h ++ e ∷ [] = outs-append h (taken w e ∷ []) in
    record {
      ascend = rw is lawful.ascend;
      in_order = moments h (taken w e) lawful.in_order (rw (is, out) (rest, append_assoc (outs h) (e ∷ []) rest ∙ sym first));
    }

pub lawful_left : (h : List Event) (e : Entry) (rest : List Entry) → PoolHistory h → accepts h ≡ outs h ++ e ∷ rest → PoolHistory (h ++ left e ∷ [])
lawful_left h e rest lawful first =
    let is : accepts (h ++ left e ∷ []) ≡ accepts h = accepts-append h (left e ∷ []) ∙ append-nil (accepts h) in
    let out : outs (h ++ left e ∷ []) ≡ outs h ++ e ∷ [] = outs-append h (left e ∷ []) in
    record {
      ascend = rw is lawful.ascend;
      in_order = moments h (left e) lawful.in_order (rw (is, out) (rest, append_assoc (outs h) (e ∷ []) rest ∙ sym first));
    }

-- what one worker took is some of what is out, in order
all_taken_by : (P : Ticket → Type 0) (n : ℕ) (h : List Event) → All P (tickets_of (outs h)) → All P (tickets_of (taken_by n h))
all_taken_by P n [] all = all
all_taken_by P n (accepted e ∷ h) all = all_taken_by P n h all
all_taken_by P n (taken w e ∷ h) all =
    let rest = all_taken_by P n h (All-tail P e.ticket (tickets_of (outs h)) all) in
    dite (ℕ_discrete w n)
    (λ same. subst (λ (b : Bool). All P (tickets_of (cond b (e ∷ taken_by n h) (taken_by n h)))) (sym (eq-eqb w n same)) (All-cons P e.ticket (tickets_of (taken_by n h)) (All-head P e.ticket (tickets_of (outs h)) all) rest))
    (λ other. subst (λ (b : Bool). All P (tickets_of (cond b (e ∷ taken_by n h) (taken_by n h)))) (sym (ne_eqb w n other)) rest)
all_taken_by P n (left e ∷ h) all = all_taken_by P n h (All-tail P e.ticket (tickets_of (outs h)) all)

pub ascend_taken_by : (n : ℕ) (h : List Event) → Ascend (tickets_of (outs h)) → Ascend (tickets_of (taken_by n h))
ascend_taken_by n [] up = tt
ascend_taken_by n (accepted e ∷ h) up = ascend_taken_by n h up
ascend_taken_by n (taken w e ∷ h) up =
    let rest = ascend_taken_by n h up.1 in
    dite (ℕ_discrete w n)
    (λ same. subst (λ (b : Bool). Ascend (tickets_of (cond b (e ∷ taken_by n h) (taken_by n h)))) (sym (eq-eqb w n same)) (all_taken_by (IsBefore e.ticket) n h up.0, rest))
    (λ other. subst (λ (b : Bool). Ascend (tickets_of (cond b (e ∷ taken_by n h) (taken_by n h)))) (sym (ne_eqb w n other)) rest)
ascend_taken_by n (left e ∷ h) up = ascend_taken_by n h up.1

all_lefts : (P : Ticket → Type 0) (h : List Event) → All P (tickets_of (outs h)) → All P (tickets_of (lefts h))
all_lefts P [] all = all
all_lefts P (accepted e ∷ h) all = all_lefts P h all
all_lefts P (taken w e ∷ h) all = all_lefts P h (All-tail P e.ticket (tickets_of (outs h)) all)
all_lefts P (left e ∷ h) all = All-cons P e.ticket (tickets_of (lefts h)) (All-head P e.ticket (tickets_of (outs h)) all) (all_lefts P h (All-tail P e.ticket (tickets_of (outs h)) all))

pub ascend_lefts : (h : List Event) → Ascend (tickets_of (outs h)) → Ascend (tickets_of (lefts h))
ascend_lefts [] up = tt
ascend_lefts (accepted e ∷ h) up = ascend_lefts h up
ascend_lefts (taken w e ∷ h) up = ascend_lefts h up.1
ascend_lefts (left e ∷ h) up = (all_lefts (IsBefore e.ticket) h up.0, ascend_lefts h up.1)

pub length-taken_by : (n : ℕ) (h : List Event) → length (taken_by n h) ≤ length (outs h)
length-taken_by n [] = omega arith
length-taken_by n (accepted e ∷ h) = length-taken_by n h
length-taken_by n (taken w e ∷ h) =
    let rest = length-taken_by n h in
    dite (ℕ_discrete w n)
    (λ same. subst (λ (b : Bool). length (cond b (e ∷ taken_by n h) (taken_by n h)) ≤ suc (length (outs h))) (sym (eq-eqb w n same)) (omega (arith, rest)))
    (λ other. subst (λ (b : Bool). length (cond b (e ∷ taken_by n h) (taken_by n h)) ≤ suc (length (outs h))) (sym (ne_eqb w n other)) (omega (arith, rest)))
length-taken_by n (left e ∷ h) = let rest = length-taken_by n h in omega (arith, rest)

pub length-lefts : (h : List Event) → length (lefts h) ≤ length (outs h)
length-lefts [] = omega arith
length-lefts (accepted e ∷ h) = length-lefts h
length-lefts (taken w e ∷ h) = let rest = length-lefts h in omega (arith, rest)
length-lefts (left e ∷ h) = let rest = length-lefts h in omega (arith, rest)

pub outs_short : (h : List Event) → PoolHistory h → length (outs h) ≤ length (accepts h)
outs_short h lawful = let p = out_in_order h lawful in omega (arith, length-append (outs h) p.0, ap length p.1)

-- what is out was taken or left
pub outs_are : (weight : Entry → ℕ) (h : List Event) → sum_by weight (outs h) ≡ sum_by weight (takes h) + sum_by weight (lefts h)
outs_are weight [] = refl
outs_are weight (accepted e ∷ h) = outs_are weight h
outs_are weight (taken w e ∷ h) = let rest = outs_are weight h in omega (arith, rest, sum_by-cons weight e (outs h), sum_by-cons weight e (takes h))
outs_are weight (left e ∷ h) = let rest = outs_are weight h in omega (arith, rest, sum_by-cons weight e (outs h), sum_by-cons weight e (lefts h))
