-- Lists by places.
use Rattle.std.proofs.Common.{◌≡◌, ℕ, zero, suc, ◌+◌, ◌<◌, ◌≤◌, List, [], ◌∷◌, ◌++◌, length, take, drop, set, map, Option, Some, None, Bool, true, false, cond, replicate, refl, sym, ap, ◌∙◌, arith}
use Rattle.std.specs.Prelude.{slice_get, ◌==◌}
use Rattle.std.specs.List.{All, AllByRecursion, count_by, filter_map, range_with_len}
use Rattle.std.proofs.lemmas.List.{length-append, length-take-le, take-append-drop}
use Rattle.std.proofs.lemmas.List.Elements.{All-from_recursion, filter_map-append}
use Rattle.std.proofs.lemmas.List.Sums.{sum_by-append}
use Rattle.std.proofs.lemmas.Bool.Decides.{nat_tests}
use Rattle.std.proofs.lemmas.Option.{slice_get_within}
use Rattle.std.proofs.Math.Seq.{drop-append_seam, take-append_seam}
use Rattle.query_model.proofs.ListFacts.{take_one_more}

pub count_push : {A : Type 0} (p : A → Bool) (xs : List A) (x : A) → count_by p (xs ++ x ∷ []) ≡ cond (p x) (count_by p xs + 1) (count_by p xs)
count_push {A = A} p xs x = sum_by-append (λ (y : A). cond (p y) 1 0) xs (x ∷ []) ∙ by (p x) (count_by p xs)
  where
    by : (b : Bool) (n : ℕ) → n + (0 + cond b 1 0) ≡ cond b (n + 1) n
    by true n = omega arith
    by false n = omega arith

pub count_first : {A : Type 0} (p : A → Bool) (x : A) (xs : List A) → count_by p (x ∷ xs) ≡ cond (p x) (suc (count_by p xs)) (count_by p xs)
count_first {A = A} p x xs = sum_by-append (λ (y : A). cond (p y) 1 0) (x ∷ []) xs ∙ by (p x) (count_by p xs)
  where
    by : (b : Bool) (n : ℕ) → (0 + cond b 1 0) + n ≡ cond b (suc n) n
    by true n = omega arith
    by false n = omega arith

pub length-filter_map-le : {A B : Type 0} (f : A → Option B) (xs : List A) → length (filter_map f xs) ≤ length xs
length-filter_map-le f [] = omega arith
length-filter_map-le {A = A} {B = B} f (x ∷ xs) = one (f x) refl (length-filter_map-le f xs)
  where
    one : (o : Option B) → f x ≡ o → length (filter_map f xs) ≤ length xs → length (filter_map f (x ∷ xs)) ≤ length (x ∷ xs)
    one None is le =
        let less : filter_map f (x ∷ xs) ≡ filter_map f xs = grind (arith, is) in
        omega (arith, ap length less, le)
    one (Some b) is le =
        let more : filter_map f (x ∷ xs) ≡ b ∷ filter_map f xs = grind (arith, is) in
        omega (arith, ap length more, le)

-- numbers computed from places, each of them within a bound
pub all_computed : (f : ℕ → ℕ) (bound n len : ℕ) → ((i : ℕ) → f i ≤ bound) → All (λ (k : ℕ). k ≤ bound) (map f (range_with_len n len))
all_computed f bound n len few = All-from_recursion (λ (k : ℕ). k ≤ bound) (map f (range_with_len n len)) (each n len)
  where
    each : (m count : ℕ) → AllByRecursion (λ (k : ℕ). k ≤ bound) (map f (range_with_len m count))
    each m zero = tt
    each m (suc count) = (few m, each (m + 1) count)

pub zeros_computed : (f : ℕ → ℕ) (n len : ℕ) → ((i : ℕ) → f i ≡ 0) → replicate len 0 ≡ map f (range_with_len n len)
zeros_computed f n zero none = refl
zeros_computed f n (suc len) none = ap (λ (l : List ℕ). 0 ∷ l) (zeros_computed f (n + 1) len none) ∙ ap (λ (k : ℕ). k ∷ map f (range_with_len (n + 1) len)) (sym (none n))

pub drop_none : {A : Type 0} (xs : List A) → drop 0 xs ≡ xs
drop_none [] = refl
drop_none (x ∷ xs) = refl

drop_push : {A : Type 0} (xs : List A) (i : ℕ) (x : A) → i ≤ length xs → drop i (xs ++ x ∷ []) ≡ drop i xs ++ x ∷ []
drop_push [] zero x h = refl
drop_push [] (suc i) x h = absurd (omega arith)
drop_push (y ∷ xs) zero x h = refl
drop_push (y ∷ xs) (suc i) x h = drop_push xs i x (omega arith)

pub drop_of_take : {A : Type 0} (i : ℕ) (xs : List A) → drop i (take i xs) ≡ []
drop_of_take zero [] = refl
drop_of_take zero (x ∷ xs) = refl
drop_of_take (suc i) [] = refl
drop_of_take (suc i) (x ∷ xs) = drop_of_take i xs

-- one more between two places
pub between_more : {A : Type 0} (xs : List A) (start i : ℕ) (x : A) → slice_get xs i ≡ Some x → start ≤ i → drop start (take (i + 1) xs) ≡ drop start (take i xs) ++ x ∷ []
between_more {A = A} xs start i x h le =
    let within : i < length xs = slice_get_within xs i x h in
    let long : start ≤ length (take i xs) = omega (arith, length-take-le i xs (omega arith)) in
    let one : i + 1 ≡ suc i = omega arith in
    ap (λ (n : ℕ). drop start (take n xs)) one ∙ (ap (drop start) (take_one_more xs i x h) ∙ drop_push (take i xs) start x long)

-- what a function gives of an item, and of those between two places
pub given_between_more : {A B : Type 0} (f : A → Option B) (xs : List A) (start i : ℕ) (x : A) → slice_get xs i ≡ Some x → start ≤ i
    → filter_map f (drop start (take (i + 1) xs)) ≡ filter_map f (drop start (take i xs)) ++ filter_map f (x ∷ [])
given_between_more f xs start i x h le = ap (filter_map f) (between_more xs start i x h le) ∙ filter_map-append f (drop start (take i xs)) (x ∷ [])

-- the item that a mapped list has at a place
pub at_map : {A B : Type 0} (f : A → B) (xs : List A) (k : ℕ) (b : B) → slice_get (map f xs) k ≡ Some b → (a : A) × (slice_get xs k ≡ Some a) × (f a ≡ b)
at_map f [] k b h = absurd cc
at_map f (x ∷ xs) zero b h = (x, refl, cc)
at_map f (x ∷ xs) (suc k) b h = at_map f xs k b h

-- where a function gives so many of the first items, these are the first of all that it gives
pub split_given : {A B : Type 0} (f : A → Option B) (xs : List A) (i n : ℕ) → length (filter_map f (take i xs)) ≡ n
    → (filter_map f (take i xs) ≡ take n (filter_map f xs)) × (filter_map f (drop i xs) ≡ drop n (filter_map f xs)) × (n ≤ length (filter_map f xs))
split_given {A = A} {B = B} f xs i n many =
    let whole : filter_map f (take i xs) ++ filter_map f (drop i xs) ≡ filter_map f xs = sym (filter_map-append f (take i xs) (drop i xs)) ∙ ap (filter_map f) (take-append-drop i xs) in
    let first : List B = filter_map f (take i xs) in
    let rest : List B = filter_map f (drop i xs) in
    let cut : take n (filter_map f xs) ≡ first = ap (λ (k : ℕ). take k (filter_map f xs)) (sym many) ∙ (ap (take (length first)) (sym whole) ∙ take-append_seam first rest) in
    let left : drop n (filter_map f xs) ≡ rest = ap (λ (k : ℕ). drop k (filter_map f xs)) (sym many) ∙ (ap (drop (length first)) (sym whole) ∙ drop-append_seam first rest) in
    (sym cut, sym left, omega (arith, ap length whole, length-append first rest, many))

-- one more at a place of a list that is computed from its places
pub set_computed : (f g : ℕ → ℕ) (n len k : ℕ) → k < len → g (n + k) ≡ f (n + k) + 1 → ((i : ℕ) → (i == n + k) ≡ false → g i ≡ f i)
    → set (map f (range_with_len n len)) k (f (n + k) + 1) ≡ map g (range_with_len n len)
set_computed f g n zero k lt here others = absurd (omega arith)
set_computed f g n (suc len) zero lt here others =
    let zero_more : n + 0 ≡ n = omega arith in
    let first : f (n + 0) + 1 ≡ g n = sym here ∙ ap g zero_more in
    let rest : map f (range_with_len (n + 1) len) ≡ map g (range_with_len (n + 1) len) = same_from f g (n + 1) len (λ i lo. sym (others i (differs n i lo))) in
    ap (λ (x : ℕ). x ∷ map f (range_with_len (n + 1) len)) first ∙ ap (λ (l : List ℕ). g n ∷ l) rest
  where
    differs : (m i : ℕ) → m + 1 ≤ i → (i == m + 0) ≡ false
    differs m i lo = grind (arith, nat_tests)

    same_from : (u v : ℕ → ℕ) (m count : ℕ) → ((i : ℕ) → m ≤ i → u i ≡ v i) → map u (range_with_len m count) ≡ map v (range_with_len m count)
    same_from u v m zero same = refl
    same_from u v m (suc count) same = ap (λ (x : ℕ). x ∷ map u (range_with_len (m + 1) count)) (same m (omega arith)) ∙ ap (λ (l : List ℕ). v m ∷ l) (same_from u v (m + 1) count (λ i lo. same i (omega arith)))
set_computed f g n (suc len) (suc k) lt here others =
    let moved : n + suc k ≡ n + 1 + k = omega arith in
    let first : f n ≡ g n = sym (others n (before n k)) in
    let rest : set (map f (range_with_len (n + 1) len)) k (f (n + 1 + k) + 1) ≡ map g (range_with_len (n + 1) len) =
    set_computed f g (n + 1) len k (omega arith) (sym (ap g moved) ∙ (here ∙ ap (λ (i : ℕ). f i + 1) moved)) (λ i no. others i (ap (λ (m : ℕ). i == m) moved ∙ no)) in
    ap (λ (x : ℕ). x ∷ set (map f (range_with_len (n + 1) len)) k (f (n + suc k) + 1)) first
    ∙ ap (λ (l : List ℕ). g n ∷ l) (ap (λ (i : ℕ). set (map f (range_with_len (n + 1) len)) k (f i + 1)) moved ∙ rest)
  where
    before : (m j : ℕ) → (m == m + suc j) ≡ false
    before m j = grind (arith, nat_tests)
