-- Steps round a ring of `size` cells.
use Rattle.std.proofs.Common.{◌≡◌, ◌≢◌, ◌⊎◌, ℕ, zero, suc, ◌+◌, ◌-◌, ◌*◌, ◌%◌, ◌^◌, ◌<◌, ◌≤◌, ◌/◌, inl, inr, ⊎_elim, zero-le, suc-le-suc, subst, shr_lt, mod-lt, pow_mono, pow_pos, arith}
use Rattle.std.proofs.lemmas.Nat.{pow-add}
use Rattle.std.proofs.lemmas.Bool.Decides.{nat_tests}
use Rattle.id_table.specs.Ring.{home_of, next, distance}

pub le_or_lt : (a b : ℕ) → (a ≤ b) ⊎ (b < a)
le_or_lt zero b = inl zero-le
le_or_lt (suc a) zero = inr (suc-le-suc zero-le)
le_or_lt (suc a) (suc b) = ⊎_elim (λ p. inl (suc-le-suc p)) (λ q. inr (suc-le-suc q)) (le_or_lt a b)

distance_up : (size from to : ℕ) → from ≤ to → distance size from to + from ≡ to
unfolding distance
distance_up size from to up = grind (arith, nat_tests)

distance_round : (size from to : ℕ) → from < size → to < from → distance size from to + from ≡ to + size
unfolding distance
distance_round size from to within round = grind (arith, nat_tests)

-- both cases of a distance
by_distance : {C : Type 0} → (size from to : ℕ) → from < size
    → (from ≤ to → distance size from to + from ≡ to → C)
    → (to < from → distance size from to + from ≡ to + size → C)
    → C
by_distance size from to within f g =
    ⊎_elim (λ p. f p (distance_up size from to p)) (λ q. g q (distance_round size from to within q)) (le_or_lt from to)

next_in : (size cell : ℕ) → cell + 1 < size → next size cell ≡ cell + 1
unfolding next
next_in size cell more = grind (arith, nat_tests)

next_end : (size cell : ℕ) → size ≤ cell + 1 → next size cell ≡ 0
unfolding next
next_end size cell last = grind (arith, nat_tests)

-- both cases of the cell after one
by_next : {C : Type 0} → (size cell : ℕ) → cell < size
    → (cell + 1 < size → next size cell ≡ cell + 1 → C)
    → (cell + 1 ≡ size → next size cell ≡ 0 → C)
    → C
by_next size cell within f g =
    ⊎_elim (λ p. g (omega arith) (next_end size cell p)) (λ q. f q (next_in size cell q)) (le_or_lt size (cell + 1))

pub next_below : (size cell : ℕ) → cell < size → next size cell < size
next_below size cell within = by_next size cell within (λ p e. omega arith) (λ p e. omega arith)

pub distance_below : (size from to : ℕ) → from < size → to < size → distance size from to < size
distance_below size from to hf ht = by_distance size from to hf (λ p e. omega arith) (λ p e. omega arith)

pub distance_same : (size at : ℕ) → at < size → distance size at at ≡ 0
distance_same size at h = by_distance size at at h (λ p e. omega arith) (λ p e. omega arith)

pub same_distance : (size from a b : ℕ) → from < size → a < size → b < size
    → distance size from a ≡ distance size from b → a ≡ b
same_distance size from a b hf ha hb same =
    by_distance size from a hf
    (λ p e. by_distance size from b hf (λ q f. omega arith) (λ q f. omega arith))
    (λ p e. by_distance size from b hf (λ q f. omega arith) (λ q f. omega arith))

-- no step leads further than one
pub distance_next : (size from at : ℕ) → from < size → at < size
    → distance size from (next size at) ≤ distance size from at + 1
distance_next size from at hf ha =
    by_next size at ha
    (λ p e. by_distance size from at hf
    (λ q f. by_distance size from (next size at) hf (λ r g. omega arith) (λ r g. omega arith))
    (λ q f. by_distance size from (next size at) hf (λ r g. omega arith) (λ r g. omega arith)))
    (λ p e. by_distance size from at hf
    (λ q f. by_distance size from (next size at) hf (λ r g. omega arith) (λ r g. omega arith))
    (λ q f. by_distance size from (next size at) hf (λ r g. omega arith) (λ r g. omega arith)))

-- a step brings one nearer
pub nearer : (size at to : ℕ) → at < size → to < size → at ≢ to
    → distance size (next size at) to + 1 ≡ distance size at to
nearer size at to ha ht apart =
    let hn = next_below size at ha in
    by_next size at ha
    (λ p e. by_distance size at to ha
    (λ q f. by_distance size (next size at) to hn (λ r g. omega arith) (λ r g. omega arith))
    (λ q f. by_distance size (next size at) to hn (λ r g. omega arith) (λ r g. omega arith)))
    (λ p e. by_distance size at to ha
    (λ q f. by_distance size (next size at) to hn (λ r g. omega arith) (λ r g. omega arith))
    (λ q f. by_distance size (next size at) to hn (λ r g. omega arith) (λ r g. omega arith)))

-- from x by y to z it is as far as from x to z, or once more round
pub by_way : {C : Type 0} → (size x y z : ℕ) → x < size → y < size → z < size
    → (distance size x y + distance size y z ≡ distance size x z → C)
    → (distance size x y + distance size y z ≡ distance size x z + size → C)
    → C
by_way size x y z hx hy hz short long =
    by_distance size x y hx
    (λ p e. by_distance size y z hy
    (λ q f. by_distance size x z hx (λ r g. short (omega arith)) (λ r g. short (omega arith)))
    (λ q f. by_distance size x z hx (λ r g. long (omega arith)) (λ r g. short (omega arith))))
    (λ p e. by_distance size y z hy
    (λ q f. by_distance size x z hx (λ r g. long (omega arith)) (λ r g. short (omega arith)))
    (λ q f. by_distance size x z hx (λ r g. long (omega arith)) (λ r g. long (omega arith))))

-- what a removal asks, of an id's home, the gap and a cell

-- the gap is on the way to the cell, so what is in it may move
pub may_move : (size home gap at : ℕ) → home < size → gap < size → at < size → gap ≢ at
    → distance size gap at ≤ distance size home at → distance size home gap < distance size home at
may_move size home gap at hh hg ha apart far =
    let below = distance_below size home gap hh hg in
    let some : 0 < distance size gap at = by_distance size gap at hg (λ p e. omega arith) (λ p e. omega arith) in
    by_way size home gap at hh hg ha (λ e. omega arith) (λ e. omega arith)

-- the gap isn't on the way to the cell
pub may_stay : (size home gap at : ℕ) → home < size → gap < size → at < size
    → distance size home at < distance size gap at → distance size home at ≤ distance size home gap
may_stay size home gap at hh hg ha near =
    let below = distance_below size gap at hg ha in
    by_way size home gap at hh hg ha (λ e. omega arith) (λ e. omega arith)

-- where the gap is on the way to a cell beyond `at`, so is `at`
pub on_way : (size home gap at k : ℕ) → home < size → gap < size → at < size → k < size
    → distance size home gap < distance size home k → distance size gap at < distance size gap k
    → distance size home at < distance size home k
on_way size home gap at k hh hg ha hk gone beyond =
    let far = distance_below size home k hh hk in
    let near = distance_below size gap k hg hk in
    by_way size home gap k hh hg hk
    (λ e. by_way size home gap at hh hg ha (λ f. omega arith) (λ f. omega arith))
    (λ e. by_way size home gap at hh hg ha (λ f. omega arith) (λ f. omega arith))

-- from the next cell on, the cell itself comes last
pub last_of_all : (size at to : ℕ) → at < size → to < size → at ≢ to
    → distance size (next size at) to < distance size (next size at) at
last_of_all size at to ha ht apart =
    let hn = next_below size at ha in
    by_next size at ha
    (λ p e. by_distance size (next size at) at hn
    (λ q f. by_distance size (next size at) to hn (λ r g. omega arith) (λ r g. omega arith))
    (λ q f. by_distance size (next size at) to hn (λ r g. omega arith) (λ r g. omega arith)))
    (λ p e. by_distance size (next size at) at hn
    (λ q f. by_distance size (next size at) to hn (λ r g. omega arith) (λ r g. omega arith))
    (λ q f. by_distance size (next size at) to hn (λ r g. omega arith) (λ r g. omega arith)))

pub home_below : (bits id : ℕ) → 2 < bits → bits ≤ 60 → home_of bits id < 3 * 2 ^ bits
unfolding home_of
home_below bits id some within =
    let e : 64 ≡ (4 + bits) + (60 - bits) = omega arith in
    let x : ℕ = (id * 0x9e37_79b9_7f4a_7c15) % 2 ^ 64 in
    let upper : x / 2 ^ (60 - bits) < 2 ^ (4 + bits) = shr_lt (4 + bits) (60 - bits) (subst (λ k. x < 2 ^ k) e (mod-lt (id * 0x9e37_79b9_7f4a_7c15) (pow_pos 64))) in
    let split : 2 ^ (4 + bits) ≡ 2 ^ 4 * 2 ^ bits = pow-add 2 4 bits in
    omega (arith, upper, split)

-- the upper bits of a multiple, and three times as much, are numbers of 64 bits
pub upper_below : (bits id : ℕ) → bits < 57 → ((id * 0x9e37_79b9_7f4a_7c15) % 2 ^ 64) / 2 ^ (60 - bits) < 2 ^ 60
upper_below bits id within =
    let e : 64 ≡ (4 + bits) + (60 - bits) = omega arith in
    let x : ℕ = (id * 0x9e37_79b9_7f4a_7c15) % 2 ^ 64 in
    let upper : x / 2 ^ (60 - bits) < 2 ^ (4 + bits) = shr_lt (4 + bits) (60 - bits) (subst (λ k. x < 2 ^ k) e (mod-lt (id * 0x9e37_79b9_7f4a_7c15) (pow_pos 64))) in
    let most : 2 ^ (4 + bits) ≤ 2 ^ 60 = pow_mono (let low : 4 + bits ≤ 60 = omega arith in low) in
    omega (arith, upper, most)

pub size_below : (bits : ℕ) → bits ≤ 56 → 2 ^ bits ≤ 2 ^ 56
size_below bits within = pow_mono within
