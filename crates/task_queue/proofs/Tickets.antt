-- Tickets that ascend.
use Rattle.std.proofs.Common.{◌≡◌, ◌<◌, List, [], ◌∷◌, ◌++◌, cond, eqb, Bool, ap, subst}
use Rattle.std.specs.List.{All, filter}
use Rattle.std.proofs.lemmas.Bool.{eq-eqb, ne_eqb}
use Rattle.std.proofs.lemmas.List.Elements.{All-cons, All-head, All-tail, All-nil, All-push}
use mathlib.Core.Logic.{dite}
use native.Mathlib.Decide.{ℕ_discrete}
use Rattle.pool_model.specs.declared.task.Ticket.{Ticket}
use Rattle.pool_model.specs.declared.task.Entry.{Entry}
use Rattle.pool_model.specs.Tickets.{IsBefore, Ascend, tickets_of}

-- one ticket more, behind all others
pub ascend-snoc : (ts : List Ticket) (t : Ticket) → Ascend ts → All (λ s. IsBefore s t) ts → Ascend (ts ++ t ∷ [])
ascend-snoc [] t up before = (All-nil (IsBefore t), tt)
ascend-snoc (s ∷ ss) t up before = (
  All-push (IsBefore s) ss t up.0 (All-head (λ (x : Ticket). IsBefore x t) s ss before),
  ascend-snoc ss t up.1 (All-tail (λ (x : Ticket). IsBefore x t) s ss before),
)

-- a task whose index is above those of its adder stands behind all
pub behind : (xs : List Entry) (e : Entry) → All (λ x. x.ticket.index < e.ticket.index) (filter (λ x. eqb x.ticket.adder e.ticket.adder) xs)
    → All (λ t. IsBefore t e.ticket) (tickets_of xs)
behind [] e below = All-nil (λ (t : Ticket). IsBefore t e.ticket)
behind (x ∷ xs) e below = dite (ℕ_discrete x.ticket.adder e.ticket.adder)
    (λ same.
    let is : filter (λ (y : Entry). eqb y.ticket.adder e.ticket.adder) (x ∷ xs) ≡ x ∷ filter (λ (y : Entry). eqb y.ticket.adder e.ticket.adder) xs =
    ap (λ (b : Bool). cond b (x ∷ filter (λ (y : Entry). eqb y.ticket.adder e.ticket.adder) xs) (filter (λ (y : Entry). eqb y.ticket.adder e.ticket.adder) xs)) (eq-eqb x.ticket.adder e.ticket.adder same) in
    let all = subst (All (λ (y : Entry). y.ticket.index < e.ticket.index)) is below in
    All-cons (λ (t : Ticket). IsBefore t e.ticket) x.ticket (tickets_of xs)
    (λ _. All-head (λ (y : Entry). y.ticket.index < e.ticket.index) x (filter (λ (y : Entry). eqb y.ticket.adder e.ticket.adder) xs) all)
    (behind xs e (All-tail (λ (y : Entry). y.ticket.index < e.ticket.index) x (filter (λ (y : Entry). eqb y.ticket.adder e.ticket.adder) xs) all)))
    (λ other.
    let is : filter (λ (y : Entry). eqb y.ticket.adder e.ticket.adder) (x ∷ xs) ≡ filter (λ (y : Entry). eqb y.ticket.adder e.ticket.adder) xs =
    ap (λ (b : Bool). cond b (x ∷ filter (λ (y : Entry). eqb y.ticket.adder e.ticket.adder) xs) (filter (λ (y : Entry). eqb y.ticket.adder e.ticket.adder) xs)) (ne_eqb x.ticket.adder e.ticket.adder other) in
    All-cons (λ (t : Ticket). IsBefore t e.ticket) x.ticket (tickets_of xs) (λ same. absurd (other same))
    (behind xs e (subst (All (λ (y : Entry). y.ticket.index < e.ticket.index)) is below)))
