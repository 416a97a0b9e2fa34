-- A word and the zeros behind it: the first zero is the word's end, and padded words compare as the words do.
use Rattle.std.proofs.Common.{rules, arith, refl, ap, sym, ◌∙◌, ◌≡◌, ◌≤◌, ◌+◌, ◌-◌, ℕ, zero, suc, List, [], ◌∷◌, ◌++◌, length, replicate, Bool, true, false, ◌&&◌, nat_le, Ordering, Less, Equal, Greater}
use Rattle.std.specs.Prelude.{take_while}
use Rattle.std.specs.Ordering.{ordering_then}
use Rattle.std.specs.Cmp.Lexicographic.{slice_cmp}
use Rattle.std.specs.Cmp.{nat_cmp_is}
use Rattle.std.specs.List.{list_all}
use Rattle.std.specs.Ordering.{nat_cmp}
use Rattle.std.proofs.lemmas.List.Sums.{take_while-cons}
use Rattle.fan_base.specs.declared.word.Word.TheInside.{Inside}
use Rattle.fan_base.specs.Word.{bytes_of, IsKept, IsWord, is_filled, is_word, is_word_byte, padded}

pub filled_byte : (c : ℕ) → is_word_byte c ≡ true → is_filled c ≡ true
filled_byte zero h = search rules
filled_byte (suc c) h = search rules

pub first_of_all : (a b : Bool) → (a && b) ≡ true → a ≡ true
first_of_all true b h = refl
first_of_all false b h = h

pub rest_of_all : (a b : Bool) → (a && b) ≡ true → b ≡ true
rest_of_all true b h = h
rest_of_all false b h = grind rules

pub up_to_zeros : (bytes : List ℕ) (n : ℕ) → list_all is_word_byte bytes ≡ true → take_while is_filled (bytes ++ replicate n 0) ≡ bytes
up_to_zeros [] zero h = refl
up_to_zeros [] (suc n) h = refl
up_to_zeros (c ∷ bytes) n h =
    let first : is_filled c ≡ true = filled_byte c (first_of_all (is_word_byte c) (list_all is_word_byte bytes) h) in
    let rest : take_while is_filled (bytes ++ replicate n 0) ≡ bytes = up_to_zeros bytes n (rest_of_all (is_word_byte c) (list_all is_word_byte bytes) h) in
    rw (take_while-cons is_filled c (bytes ++ replicate n 0), first) (ap (λ more. c ∷ more) rest)

word_bytes : (bytes : List ℕ) → is_word bytes ≡ true → list_all is_word_byte bytes ≡ true
word_bytes bytes h =
    rest_of_all (nat_le (length bytes) 32) (list_all is_word_byte bytes) (rest_of_all (nat_le 1 (length bytes)) (nat_le (length bytes) 32 && list_all is_word_byte bytes) h)

pub up_to_padding : (bytes : List ℕ) → is_word bytes ≡ true → take_while is_filled (padded bytes) ≡ bytes
up_to_padding bytes h =
    up_to_zeros bytes (32 - length bytes) (word_bytes bytes h)

pub is_kept : (bytes array : List ℕ) → array ≡ padded bytes → is_word bytes ≡ true → IsKept (record { bytes = array })
is_kept bytes array e h =
    let kept : take_while is_filled array ≡ bytes = rw e (up_to_padding bytes h) in
    record { word = rw (kept, h) refl; zeros = rw kept e }

pub found : (bytes array : List ℕ) → array ≡ padded bytes → is_word bytes ≡ true → (take_while is_filled array ≡ bytes) × IsWord bytes
found bytes array e h = (rw e (up_to_padding bytes h), rw h refl)

zeros_tie : (n : ℕ) → slice_cmp nat_cmp (replicate n 0) (replicate n 0) ≡ Equal
zeros_tie zero = refl
zeros_tie (suc n) = zeros_tie n

is_less : (y : ℕ) → is_word_byte y ≡ true → nat_cmp 0 y ≡ Less
is_less zero h = search rules
is_less (suc y) h = sym (nat_cmp_is 0 (suc y) Less (omega arith))

is_greater : (x : ℕ) → is_word_byte x ≡ true → nat_cmp x 0 ≡ Greater
is_greater zero h = search rules
is_greater (suc x) h = sym (nat_cmp_is (suc x) 0 Greater (omega arith))

-- lists of word bytes, with zeros behind them up to the same length, compare as the lists do
pub with_zeros : (xs ys : List ℕ) (m n : ℕ) → list_all is_word_byte xs ≡ true → list_all is_word_byte ys ≡ true → length xs + m ≡ length ys + n
    → slice_cmp nat_cmp (xs ++ replicate m 0) (ys ++ replicate n 0) ≡ slice_cmp nat_cmp xs ys
with_zeros [] [] m n h k e = let same : m ≡ n = omega (arith, e) in rw same (zeros_tie n)
with_zeros [] (y ∷ ys) zero n h k e = refl
with_zeros [] (y ∷ ys) (suc m) n h k e =
    ap (λ o. ordering_then o (slice_cmp nat_cmp (replicate m 0) (ys ++ replicate n 0))) (is_less y (first_of_all (is_word_byte y) (list_all is_word_byte ys) k))
with_zeros (x ∷ xs) [] m zero h k e = refl
with_zeros (x ∷ xs) [] m (suc n) h k e =
    ap (λ o. ordering_then o (slice_cmp nat_cmp (xs ++ replicate m 0) (replicate n 0))) (is_greater x (first_of_all (is_word_byte x) (list_all is_word_byte xs) h))
with_zeros (x ∷ xs) (y ∷ ys) m n h k e =
    ap (ordering_then (nat_cmp x y)) (with_zeros xs ys m n (rest_of_all (is_word_byte x) (list_all is_word_byte xs) h) (rest_of_all (is_word_byte y) (list_all is_word_byte ys) k) (omega (arith, e)))

fits : (bytes : List ℕ) → is_word bytes ≡ true → length bytes ≤ 32
fits bytes h =
    let within : nat_le (length bytes) 32 ≡ true =
    first_of_all (nat_le (length bytes) 32) (list_all is_word_byte bytes) (rest_of_all (nat_le 1 (length bytes)) (nat_le (length bytes) 32 && list_all is_word_byte bytes) h) in
    grind (arith, within)

pub padded_cmp : (xs ys : List ℕ) → IsWord xs → IsWord ys → slice_cmp nat_cmp (padded xs) (padded ys) ≡ slice_cmp nat_cmp xs ys
padded_cmp xs ys h k =
    let a : is_word xs ≡ true = search (rules, h) in
    let b : is_word ys ≡ true = search (rules, k) in
    let x : length xs ≤ 32 = fits xs a in
    let y : length ys ≤ 32 = fits ys b in
    with_zeros xs ys (32 - length xs) (32 - length ys) (word_bytes xs a) (word_bytes ys b) (omega (arith, x, y))

-- the order of the arrays is the order of the words in them
pub same_order : (a b : Inside) (r : Ordering) → IsKept a → IsKept b → r ≡ slice_cmp nat_cmp a.bytes b.bytes → r ≡ slice_cmp nat_cmp (bytes_of a) (bytes_of b)
same_order a b r h k e =
    let arrays : slice_cmp nat_cmp a.bytes b.bytes ≡ slice_cmp nat_cmp (padded (bytes_of a)) (padded (bytes_of b)) = (λ i. slice_cmp nat_cmp (h.zeros i) (k.zeros i)) in
    e ∙ (arrays ∙ padded_cmp (bytes_of a) (bytes_of b) h.word k.word)
