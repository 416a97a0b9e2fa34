-- What the laws say.
use Rattle.std.proofs.Common.{◌≡◌, ◌≢◌, ℕ, zero, suc, ◌+◌, ◌<◌, ◌≤◌, cond, eqb, Bool, List, [], ◌∷◌, ◌++◌, length, take, Option, Some, refl, sym, ap, ◌∙◌, subst, arith, eq-eqb, ne_eqb}
use Rattle.std.specs.Prelude.{slice_get, slice_index_or, unwrap_or}
use Rattle.std.specs.List.{All}
use Rattle.std.proofs.lemmas.List.{map-append, take-take}
use Rattle.std.proofs.lemmas.List.Sums.{sum_by-cons}
use Rattle.std.proofs.lemmas.List.Elements.{All-head, All-tail}
use mathlib.Core.List.{IsPrefix}
use mathlib.Core.Logic.{dite}
use native.Mathlib.Decide.{dec_le}
use Rattle.pool_model.specs.declared.task.Ticket.{Ticket}
use Rattle.pool_model.specs.declared.task.Entry.{Entry}
use Rattle.pool_model.specs.History.{Event, accepts, outs, PoolHistory}
use Rattle.pool_model.specs.Seen.{PoolId, PassSeen}
use Rattle.pool_model.specs.Passes.{passes_with, AreAllPasses, AreNumbered}
use Rattle.pool_model.specs.Tickets.{IsBefore, Ascend, tickets_of}
use Rattle.pool_model.proofs.Tickets.{ascend-front}
use Rattle.pool_model.proofs.Histories.{accepts-append, outs_ascend}

take_short : (n m : ℕ) (h : List Event) → m ≤ n → take n (take m h) ≡ take m h
take_short n zero h le = none n
  where
    none : (n : ℕ) → take n (take zero h) ≡ take zero h
    none zero = refl
    none (suc n) = refl
take_short zero (suc m) h le = absurd (omega arith)
take_short (suc n) (suc m) [] le = refl
take_short (suc n) (suc m) (e ∷ h) le = ap (λ (l : List Event). e ∷ l) (take_short n m h (omega arith))

rest_of : (m : ℕ) (h : List Event) → (rest : List Event) × (take m h ++ rest ≡ h)
rest_of zero h = (h, refl)
rest_of (suc m) [] = ([], refl)
rest_of (suc m) (e ∷ h) = let r = rest_of m h in (r.0, ap (λ (l : List Event). e ∷ l) r.1)

pub lawful_begin : (h : List Event) → PoolHistory h → (m : ℕ) → PoolHistory (take m h)
lawful_begin h lawful m =
    let r = rest_of m h in
    let is : tickets_of (accepts h) ≡ tickets_of (accepts (take m h)) ++ tickets_of (accepts r.0) =
    ap (λ (l : List Event). tickets_of (accepts l)) (sym r.1) ∙ (ap tickets_of (accepts-append (take m h) r.0) ∙ map-append (λ (x : Entry). x.ticket) (accepts (take m h)) (accepts r.0)) in
    record {
      ascend = ascend-front (tickets_of (accepts (take m h))) (tickets_of (accepts r.0)) (subst Ascend is lawful.ascend);
      in_order = λ n. dite (dec_le n m)
          (λ le. subst (λ (l : List Event). IsPrefix (outs l) (accepts l)) (sym (take-take n m h le)) (lawful.in_order n))
          (λ gt. subst (λ (l : List Event). IsPrefix (outs l) (accepts l)) (sym (take_short n m h (omega (arith, gt)))) (lawful.in_order m));
    }

all_at : (P : Ticket → Type 0) (xs : List Entry) (j : ℕ) (b : Entry) → All P (tickets_of xs) → slice_get xs j ≡ Some b → P b.ticket
all_at P [] j b all at = absurd (cc)
all_at P (x ∷ xs) zero b all at = subst (λ (e : Entry). P e.ticket) (ap (λ (o : Option Entry). unwrap_or o x) at) (All-head P x.ticket (tickets_of xs) all)
all_at P (x ∷ xs) (suc j) b all at = all_at P xs j b (All-tail P x.ticket (tickets_of xs) all) at

-- tickets that ascend are all different
pub different : (xs : List Entry) → Ascend (tickets_of xs) → (i j : ℕ) (a b : Entry) → i < j → slice_get xs i ≡ Some a → slice_get xs j ≡ Some b → a.ticket ≢ b.ticket
different [] up i j a b lt at there = absurd (cc)
different (x ∷ xs) up zero zero a b lt at there = absurd (omega arith)
different (x ∷ xs) up zero (suc j) a b lt at there =
    let is : x ≡ a = ap (λ (o : Option Entry). unwrap_or o x) at in
    let before : IsBefore x.ticket b.ticket = all_at (IsBefore x.ticket) xs j b up.0 there in
    λ same.
    let t : x.ticket ≡ b.ticket = ap (λ (e : Entry). e.ticket) is ∙ same in
    let lt = before (ap (λ (y : Ticket). y.adder) t) in
    let eq = ap (λ (y : Ticket). y.index) t in
    absurd (omega (arith, lt, eq))
different (x ∷ xs) up (suc i) zero a b lt at there = absurd (omega arith)
different (x ∷ xs) up (suc i) (suc j) a b lt at there = different xs up.1 i j a b (omega arith) at there

pub accepted_differ : (h : List Event) → PoolHistory h → (i j : ℕ) (a b : Entry) → i < j → slice_get (accepts h) i ≡ Some a → slice_get (accepts h) j ≡ Some b → a.ticket ≢ b.ticket
accepted_differ h lawful = different (accepts h) lawful.ascend

pub left_differ : (h : List Event) → PoolHistory h → (i j : ℕ) (a b : Entry) → i < j → slice_get (outs h) i ≡ Some a → slice_get (outs h) j ≡ Some b → a.ticket ≢ b.ticket
left_differ h lawful = different (outs h) (outs_ascend h lawful)

abbrev one_if : Bool → ℕ
one_if b = cond b 1 0

-- passes that are numbered one after another
abbrev from : ℕ → List PassSeen → Type 0
from base passes = (k : ℕ) (d : PassSeen) → k < length passes → (slice_index_or passes k d).number ≡ base + k

from_next : (base : ℕ) (p : PassSeen) (ps : List PassSeen) → from base (p ∷ ps) → from (base + 1) ps
from_next base p ps each k d within = each (suc k) d (omega (arith, within)) ∙ omega arith

one_more : (n : ℕ) (p : PassSeen) (ps : List PassSeen) → passes_with n (p ∷ ps) ≡ one_if (eqb p.number n) + passes_with n ps
one_more n p ps = sum_by-cons (λ (q : PassSeen). one_if (eqb q.number n)) p ps

none_below : (n base : ℕ) (passes : List PassSeen) → from base passes → n < base → passes_with n passes ≡ 0
none_below n base [] each below = refl
none_below n base (p ∷ ps) each below =
    let number : p.number ≡ base + 0 = each 0 p (omega arith) in
    let other : p.number ≢ n = λ e. omega (arith, number, below, e) in
    let none_here : one_if (eqb p.number n) ≡ 0 = ap one_if (ne_eqb p.number n other) in
    omega (arith, none_here, one_more n p ps, none_below n (base + 1) ps (from_next base p ps each) (omega (arith, below)))

one_there : (base m : ℕ) (passes : List PassSeen) → from base passes → m < length passes → passes_with (base + m) passes ≡ 1
one_there base m [] each within = absurd (omega (arith, within))
one_there base zero (p ∷ ps) each within =
    let number : p.number ≡ base + 0 = each 0 p (omega arith) in
    let here : one_if (eqb p.number (base + 0)) ≡ 1 = ap one_if (eq-eqb p.number (base + 0) number) in
    omega (arith, here, one_more (base + 0) p ps, none_below (base + 0) (base + 1) ps (from_next base p ps each) (omega arith))
one_there base (suc m) (p ∷ ps) each within =
    let number : p.number ≡ base + 0 = each 0 p (omega arith) in
    let other : p.number ≢ base + suc m = λ e. omega (arith, number, e) in
    let none_here : one_if (eqb p.number (base + suc m)) ≡ 0 = ap one_if (ne_eqb p.number (base + suc m) other) in
    let rest = one_there (base + 1) m ps (from_next base p ps each) (omega (arith, within)) in
    let shift : base + suc m ≡ (base + 1) + m = omega arith in
    let same = ap (λ (n : ℕ). passes_with n ps) shift in
    omega (arith, none_here, one_more (base + suc m) p ps, rest, same)

found_at : (passes : List PassSeen) (k : ℕ) (pass : PassSeen) → slice_get passes k ≡ Some pass → (k < length passes) × (slice_index_or passes k pass ≡ pass)
found_at [] k pass at = absurd (cc)
found_at (p ∷ ps) zero pass at = (omega arith, ap (λ (o : Option PassSeen). unwrap_or o p) at)
found_at (p ∷ ps) (suc k) pass at = let h = found_at ps k pass at in (omega (arith, h.0), h.1)

pub numbered_are_all : (pool : PoolId) (adders : ℕ) (passes : List PassSeen) → AreNumbered pool adders passes → AreAllPasses pool adders passes
numbered_are_all pool adders passes numbered = record {
  of_pool = λ k d within. (numbered.each k d within).0;
  count = numbered.count;
  once = λ k pass at.
      let h = found_at passes k pass at in
      let number : pass.number ≡ k = sym (ap (λ (p : PassSeen). p.number) h.1) ∙ (numbered.each k pass h.0).1 in
      ap (λ (n : ℕ). passes_with n passes) (number ∙ omega arith) ∙ one_there 0 k passes (λ j d within. (numbered.each j d within).1 ∙ omega arith) h.0;
}
