-- Lists of new passes.
use Rattle.std.proofs.Common.{◌≡◌, ℕ, zero, suc, ◌+◌, List, [], ◌∷◌, ◌++◌, length, map, refl, sym, ap, ◌∙◌, arith}
use Rattle.std.specs.List.{All}
use Rattle.std.proofs.lemmas.List.{map-append}
use Rattle.std.proofs.lemmas.List.Elements.{All-cons, All-nil}
use Rattle.pool_model.specs.declared.task.Entry.{Entry}
use Rattle.pool_model.specs.Seen.{PoolId, PassSeen, WorkerSeen, EndSeen}
use Rattle.prio_pool.specs.Made.{new_pass, new_passes, new_takers_seen, new_takers_from, new_workers, new_end, new_ends, in_places, IsPlace, worker_seen, helper_seen}
use Rattle.prio_pool.specs.Passes.{TookNothing}
use Rattle.prio_pool.specs.Takers.{TakersSeen}
use Rattle.prio_pool.proofs.Making.{nothing_all}

pub one_pass_more : (pool : PoolId) (first n k : ℕ) → k ≡ first + n → new_passes pool first (suc n) ≡ new_passes pool first n ++ new_pass pool k ∷ []
one_pass_more pool first zero k is = let same : first ≡ k = omega (arith, is) in ap (λ (m : ℕ). new_pass pool m ∷ []) same
one_pass_more pool first (suc n) k is = ap (λ (l : List PassSeen). new_pass pool first ∷ l) (one_pass_more pool (first + 1) n k (omega (arith, is)))

pub one_place_more : (pool : PoolId) (n k : ℕ) → k ≡ n + 1 → in_places (new_passes pool 0 k) ≡ in_places (new_passes pool 0 n) ++ (new_pass pool n ∷ []) ∷ []
one_place_more pool n k is =
    let next : k ≡ suc n = omega (arith, is) in
    ap (λ (m : ℕ). in_places (new_passes pool 0 m)) next
    ∙ (ap in_places (one_pass_more pool 0 n n (omega arith)) ∙ map-append (λ (p : PassSeen). p ∷ []) (new_passes pool 0 n) (new_pass pool n ∷ []))

taker_more : (pool : PoolId) (first n k : ℕ) → k ≡ first + n → new_takers_from pool first (suc n) ≡ new_takers_from pool first n ++ new_takers_seen pool k ∷ []
taker_more pool first zero k is = let same : first ≡ k = omega (arith, is) in ap (λ (m : ℕ). new_takers_seen pool m ∷ []) same
taker_more pool first (suc n) k is = ap (λ (l : List TakersSeen). new_takers_seen pool first ∷ l) (taker_more pool (first + 1) n k (omega (arith, is)))

pub one_taker_more : (pool : PoolId) (first n k : ℕ) → k ≡ n + 1 → new_takers_from pool first k ≡ new_takers_from pool first n ++ new_takers_seen pool (first + n) ∷ []
one_taker_more pool first n k is = let next : k ≡ suc n = omega (arith, is) in ap (new_takers_from pool first) next ∙ taker_more pool first n (first + n) refl

pub count_passes : (pool : PoolId) (first n : ℕ) → length (new_passes pool first n) ≡ n
count_passes pool first zero = refl
count_passes pool first (suc n) = ap suc (count_passes pool (first + 1) n)

pub count_takers : (pool : PoolId) (first n : ℕ) → length (new_takers_from pool first n) ≡ n
count_takers pool first zero = refl
count_takers pool first (suc n) = ap suc (count_takers pool (first + 1) n)

pub each_place : (pool : PoolId) (first n : ℕ) → All (IsPlace pool.mark) (in_places (new_passes pool first n))
each_place pool first zero = All-nil (IsPlace pool.mark)
each_place pool first (suc n) = All-cons (IsPlace pool.mark) (new_pass pool first ∷ []) (in_places (new_passes pool (first + 1) n)) record { pass = new_pass pool first; one = refl; of_mark = refl } (each_place pool (first + 1) n)

pub each_took_none : (pool : PoolId) (first n : ℕ) → All TookNothing (new_takers_from pool first n)
each_took_none pool first zero = All-nil TookNothing
each_took_none pool first (suc n) = All-cons TookNothing (new_takers_seen pool first) (new_takers_from pool (first + 1) n)
    record { none = nothing_all (λ (e : List Entry). e ≡ []) pool.queues refl; looks = refl; found = refl }
    (each_took_none pool (first + 1) n)

pub are_workers : (pool : PoolId) (first n : ℕ) → map worker_seen (new_takers_from pool first n) ≡ new_workers pool first n
are_workers pool first zero = refl
are_workers pool first (suc n) = ap (λ (l : List WorkerSeen). record { pool = pool; number = first } ∷ l) (are_workers pool (first + 1) n)

pub are_helpers : (pool : PoolId) (first n : ℕ) → map helper_seen (new_takers_from pool first n) ≡ new_ends pool first n
are_helpers pool first zero = refl
are_helpers pool first (suc n) = ap (λ (l : List EndSeen). new_end pool first ∷ l) (are_helpers pool (first + 1) n)

abbrev out_of : List (List PassSeen) → List PassSeen
out_of [] = []
out_of ([] ∷ places) = out_of places
out_of ((p ∷ ps) ∷ places) = p ∷ out_of places

out_is : (passes : List PassSeen) → out_of (in_places passes) ≡ passes
out_is [] = refl
out_is (p ∷ ps) = ap (λ (l : List PassSeen). p ∷ l) (out_is ps)

pub same_places : (xs ys : List PassSeen) → in_places xs ≡ in_places ys → xs ≡ ys
same_places xs ys is = sym (out_is xs) ∙ (ap out_of is ∙ out_is ys)
