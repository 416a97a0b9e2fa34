-- The passes of a new pool are of it, and its adders' have added nothing.
use Rattle.std.proofs.Common.{◌≡◌, ℕ, zero, suc, ◌+◌, ◌<◌, List, [], length, map, refl, ap, ◌∙◌, arith}
use Rattle.std.specs.Prelude.{slice_index_or}
use Rattle.std.specs.List.{All, range_with_len}
use Rattle.std.proofs.lemmas.List.Elements.{All-cons, All-nil}
use Rattle.pool_model.specs.Passes.{AreNumbered, adds_of, add_with}
use Rattle.pool_model.specs.Seen.{PoolId, PassSeen, WorkerSeen, EndSeen}
use Rattle.pool_model.specs.Tasks.{Task}
use Rattle.prio_pool.specs.Made.{new_pass, new_passes, new_workers, new_end, new_ends}
use Rattle.prio_pool.proofs.Listing.{count_passes}
use Rattle.prio_pool.proofs.Making.{nothing_up}

added_none : (pool : PoolId) (number : ℕ) → adds_of (new_pass pool number) ≡ []
added_none pool number = ap (λ (l : List Task). map (add_with l) (range_with_len 0 (length l))) (nothing_up 0 pool.queues)

pub unused_passes : (pool : PoolId) (first n : ℕ) → All (λ p. (p.pool ≡ pool) × (adds_of p ≡ [])) (new_passes pool first n)
unused_passes pool first zero = All-nil (λ (p : PassSeen). (p.pool ≡ pool) × (adds_of p ≡ []))
unused_passes pool first (suc n) = All-cons (λ (p : PassSeen). (p.pool ≡ pool) × (adds_of p ≡ [])) (new_pass pool first) (new_passes pool (first + 1) n) (refl, added_none pool first) (unused_passes pool (first + 1) n)

pub own_workers : (pool : PoolId) (first n : ℕ) → All (λ w. w.pool ≡ pool) (new_workers pool first n)
own_workers pool first zero = All-nil (λ (w : WorkerSeen). w.pool ≡ pool)
own_workers pool first (suc n) = All-cons (λ (w : WorkerSeen). w.pool ≡ pool) record { pool = pool; number = first } (new_workers pool (first + 1) n) refl (own_workers pool (first + 1) n)

pub own_helpers : (pool : PoolId) (first n : ℕ) → All (λ e. e.pool ≡ pool) (new_ends pool first n)
own_helpers pool first zero = All-nil (λ (e : EndSeen). e.pool ≡ pool)
own_helpers pool first (suc n) = All-cons (λ (e : EndSeen). e.pool ≡ pool) (new_end pool first) (new_ends pool (first + 1) n) refl (own_helpers pool (first + 1) n)

at_number : (pool : PoolId) (first n k : ℕ) (d : PassSeen) → k < length (new_passes pool first n) → ((slice_index_or (new_passes pool first n) k d).pool ≡ pool) × ((slice_index_or (new_passes pool first n) k d).number ≡ first + k)
at_number pool first zero k d l = absurd (omega (arith, l))
at_number pool first (suc n) zero d l =
    let same : first ≡ first + 0 = omega arith in
    (refl, same)
at_number pool first (suc n) (suc k) d l =
    let next = at_number pool (first + 1) n k d (omega (arith, l)) in
    let same : first + 1 + k ≡ first + suc k = omega arith in
    (next.0, next.1 ∙ same)

from_start : (k : ℕ) → 0 + k ≡ k
from_start k = omega arith

pub numbered_passes : (pool : PoolId) (adders : ℕ) → AreNumbered pool adders (new_passes pool 0 adders)
numbered_passes pool adders = record {
  count = count_passes pool 0 adders;
  each = λ k d l. let at = at_number pool 0 adders k d l in (at.0, at.1 ∙ from_start k);
}
