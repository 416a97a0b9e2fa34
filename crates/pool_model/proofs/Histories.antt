-- What left a lawful history ascends.
use Rattle.std.proofs.Common.{◌≡◌, List, [], ◌∷◌, ◌++◌, length, sym, refl, ap, ◌∙◌, subst, arith}
use Rattle.std.proofs.lemmas.List.{take_all, map-append}
use mathlib.Core.List.{IsPrefix}
use Rattle.pool_model.specs.declared.task.Entry.{Entry}
use Rattle.pool_model.specs.History.{Event, accepted, taken, left, accepts, outs, PoolHistory}
use Rattle.pool_model.specs.Tickets.{Ascend, tickets_of}
use Rattle.pool_model.proofs.Tickets.{ascend-front}

pub accepts-append : (h k : List Event) → accepts (h ++ k) ≡ accepts h ++ accepts k
accepts-append [] k = refl
accepts-append (accepted e ∷ h) k = ap (λ (l : List Entry). e ∷ l) (accepts-append h k)
accepts-append (taken w e ∷ h) k = accepts-append h k
accepts-append (left e ∷ h) k = accepts-append h k

pub out_in_order : (h : List Event) → PoolHistory h → IsPrefix (outs h) (accepts h)
out_in_order h lawful = let f = take_all (length h) h (omega arith) in rw f at (lawful.in_order (length h))

pub outs_ascend : (h : List Event) → PoolHistory h → Ascend (tickets_of (outs h))
outs_ascend h lawful =
    let p = out_in_order h lawful in
    let is : tickets_of (accepts h) ≡ tickets_of (outs h) ++ tickets_of p.0 = ap tickets_of (sym p.1) ∙ map-append (λ (x : Entry). x.ticket) (outs h) p.0 in
    ascend-front (tickets_of (outs h)) (tickets_of p.0) (subst Ascend is lawful.ascend)
