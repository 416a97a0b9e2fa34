-- The places of a table: no two of one base's queries have the same.
use Rattle.std.proofs.Common.{◌≡◌, ◌≢◌, ◌⊎◌, ℕ, ◌+◌, ◌-◌, ◌*◌, ◌/◌, ◌%◌, ◌<◌, ◌≤◌, inl, inr, ap, ⊎_elim, arith}
use Rattle.std.proofs.Math.Nat.{div-mul-le_self, mod-lt, mul_comm}
use Rattle.std.proofs.lemmas.Bool.{cases_order}
use Rattle.std.proofs.lemmas.Nat.{div-add-mod', le-div, mul-add-lt}

pub same_or_not : (a b : ℕ) → (a ≡ b) ⊎ (a ≢ b)
same_or_not a b = ⊎_elim (λ e. inl e) (λ o. inr (λ e. ⊎_elim (λ lt. omega (arith, lt, e)) (λ gt. omega (arith, gt, e)) o)) (cases_order a b)

-- a row less is a row's width less
row_less : (p q width : ℕ) → p < q → 0 < width → p * width + width ≤ q * width
row_less p q width less some =
    let lt : p * width + (width - 1) < width * q = mul-add-lt p width (width - 1) q less (omega (arith, some)) in
    omega (arith, lt, mul_comm width q, some)

-- numbers from 1 on with one quotient, which lie on one base, are the same
pub same_number : (bases n m : ℕ) → 0 < bases → 1 ≤ n → 1 ≤ m → (n - 1) % bases ≡ (m - 1) % bases → n / bases ≡ m / bases → n ≡ m
same_number bases n m some first second on_one in_one =
    let row_n : n / bases * bases + n % bases ≡ n = div-add-mod' n bases in
    let row_m : m / bases * bases + m % bases ≡ m = div-add-mod' m bases in
    let rows : n / bases * bases ≡ m / bases * bases = ap (λ (k : ℕ). k * bases) in_one in
    let below_n : n % bases < bases = mod-lt n some in
    let below_m : m % bases < bases = mod-lt m some in
    let p = (n - 1) / bases in
    let q = (m - 1) / bases in
    let turn_n : p * bases + (n - 1) % bases ≡ n - 1 = div-add-mod' (n - 1) bases in
    let turn_m : q * bases + (m - 1) % bases ≡ m - 1 = div-add-mod' (m - 1) bases in
    ⊎_elim
    (λ (e : p ≡ q). let turns : p * bases ≡ q * bases = ap (λ (k : ℕ). k * bases) e in omega (arith, turns, turn_n, turn_m, on_one, first, second))
    (λ o. absurd (⊎_elim
    (λ (less : p < q). omega (arith, row_less p q bases less some, turn_n, turn_m, on_one, first, second, row_n, row_m, rows, below_n, below_m))
    (λ (more : q < p). omega (arith, row_less q p bases more some, turn_n, turn_m, on_one, first, second, row_n, row_m, rows, below_n, below_m))
    o))
    (cases_order p q)

-- a number up to the highest has a place
pub has_place : (number highest bases : ℕ) → 0 < bases → number ≤ highest → number / bases < highest / bases + 1
has_place number highest bases some few = omega (arith, le-div (number / bases) highest bases some (omega (arith, div-mul-le_self number bases, few)))
