-- Which worker each parker and each waker is for.
use Rattle.std.proofs.Common.{◌≡◌, ℕ, zero, suc, ◌+◌, ◌^◌, List, [], ◌∷◌, ◌++◌, refl, sym, ap, ◌∙◌, arith}
use Rattle.std.proofs.lemmas.List.{map-append}
use Rattle.pool_model.specs.Seen.{PoolId}
use Rattle.prio_pool.specs.declared.sleepers.OwnParker.{OwnParker}
use Rattle.prio_pool.specs.declared.sleepers.OwnWaker.{OwnWaker}
use Rattle.prio_pool.specs.Made.{new_takers_from}
use Rattle.prio_pool.specs.Sleeping.{bits_from, parkers_of, wakers_of, bits_of}

bits_more : (first n k : ℕ) → k ≡ first + n → bits_from first (suc n) ≡ bits_from first n ++ 2 ^ k ∷ []
bits_more first zero k is = let same : first ≡ k = omega (arith, is) in ap (λ (m : ℕ). 2 ^ m ∷ []) same
bits_more first (suc n) k is = ap (λ (l : List ℕ). 2 ^ first ∷ l) (bits_more (first + 1) n k (omega (arith, is)))

one_more : (n k : ℕ) → k ≡ n + 1 → bits_from 0 n ++ 2 ^ n ∷ [] ≡ bits_from 0 k
one_more n k is = let next : suc n ≡ k = omega (arith, is) in sym (bits_more 0 n n (omega arith)) ∙ ap (bits_from 0) next

pub parker_more : (ps : List OwnParker) (p : OwnParker) (n k : ℕ) → k ≡ n + 1 → parkers_of ps ≡ bits_from 0 n → p.bit ≡ 2 ^ n → parkers_of (ps ++ p ∷ []) ≡ bits_from 0 k
parker_more ps p n k is so own = map-append (λ (q : OwnParker). q.bit) ps (p ∷ []) ∙ ((λ i. so i ++ own i ∷ []) ∙ one_more n k is)

pub waker_more : (ws : List OwnWaker) (w : OwnWaker) (n k : ℕ) → k ≡ n + 1 → wakers_of ws ≡ bits_from 0 n → w.bit ≡ 2 ^ n → wakers_of (ws ++ w ∷ []) ≡ bits_from 0 k
waker_more ws w n k is so own = map-append (λ (v : OwnWaker). v.bit) ws (w ∷ []) ∙ ((λ i. so i ++ own i ∷ []) ∙ one_more n k is)

-- the workers of a new pool have these bits
pub have_bits : (pool : PoolId) (first n : ℕ) → bits_of (new_takers_from pool first n) ≡ bits_from first n
have_bits pool first zero = refl
have_bits pool first (suc n) = ap (λ (l : List ℕ). 2 ^ first ∷ l) (have_bits pool (first + 1) n)

abbrev others : List ℕ → List ℕ
others [] = []
others (x ∷ xs) = xs

pub same_others : (x y : ℕ) (xs ys : List ℕ) → x ∷ xs ≡ y ∷ ys → xs ≡ ys
same_others x y xs ys is = ap others is
