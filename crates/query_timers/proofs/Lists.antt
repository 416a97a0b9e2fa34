-- Lists: two tests, and those that all items pass or fail.
use Rattle.std.proofs.Common.{◌≡◌, suc, ◌+◌, List, [], ◌∷◌, length, Bool, true, false, ◌&&◌, not, cond, refl, sym, ap, ◌∙◌, arith, filter}
use Rattle.std.specs.List.{AllByRecursion}

-- what follows from two facts of each item holds of each
pub all-both : {A : Type 0} (P Q R : A → Type 0) → ((a : A) → P a → Q a → R a) → (xs : List A) → AllByRecursion P xs → AllByRecursion Q xs → AllByRecursion R xs
all-both P Q R step [] h k = tt
all-both P Q R step (x ∷ xs) h k = (step x h.0 k.0, all-both P Q R step xs h.1 k.1)

-- a test that all fail
pub filter-none : {A : Type 0} (p : A → Bool) (xs : List A) → AllByRecursion (λ x. p x ≡ false) xs → filter p xs ≡ []
filter-none p [] h = refl
filter-none {A = A} p (x ∷ xs) h = ap (λ (b : Bool). cond b (x ∷ filter p xs) (filter p xs)) h.0 ∙ filter-none p xs h.1

pub filter-whole : {A : Type 0} (p : A → Bool) (xs : List A) → AllByRecursion (λ x. p x ≡ false) xs → filter (λ x. not (p x)) xs ≡ xs
filter-whole p [] h = refl
filter-whole {A = A} p (x ∷ xs) h =
    ap (λ (b : Bool). cond (not b) (x ∷ filter (λ y. not (p y)) xs) (filter (λ y. not (p y)) xs)) h.0 ∙ ap (λ (l : List A). x ∷ l) (filter-whole p xs h.1)

pub filter-swap : {A : Type 0} (p q : A → Bool) (xs : List A) → filter p (filter q xs) ≡ filter q (filter p xs)
filter-swap p q [] = refl
filter-swap {A = A} p q (x ∷ xs) = by (p x) (q x) refl refl (filter-swap p q xs)
  where
    PQ : List A
    PQ = filter p (filter q xs)

    QP : List A
    QP = filter q (filter p xs)

    by : (a b : Bool) → p x ≡ a → q x ≡ b → PQ ≡ QP → filter p (cond b (x ∷ filter q xs) (filter q xs)) ≡ filter q (cond a (x ∷ filter p xs) (filter p xs))
    by true true is also rest =
        ap (λ (c : Bool). cond c (x ∷ PQ) PQ) is ∙ (ap (λ (l : List A). x ∷ l) rest ∙ ap (λ (c : Bool). cond c (x ∷ QP) QP) (sym also))
    by true false is also rest = rest ∙ ap (λ (c : Bool). cond c (x ∷ QP) QP) (sym also)
    by false true is also rest = ap (λ (c : Bool). cond c (x ∷ PQ) PQ) is ∙ rest
    by false false is also rest = rest

-- both tests are one after the other
pub filter-both : {A : Type 0} (p q : A → Bool) (xs : List A) → filter (λ x. p x && q x) xs ≡ filter q (filter p xs)
filter-both p q [] = refl
filter-both {A = A} p q (x ∷ xs) = by (p x) (filter-both p q xs)
  where
    B : List A
    B = filter (λ y. p y && q y) xs

    by : (a : Bool) → B ≡ filter q (filter p xs) → cond (a && q x) (x ∷ B) B ≡ filter q (cond a (x ∷ filter p xs) (filter p xs))
    by true rest = ap (λ (l : List A). cond (q x) (x ∷ l) l) rest
    by false rest = rest

-- where no item passes, all stay
pub filter-not-none : {A : Type 0} (p : A → Bool) (xs : List A) → filter p xs ≡ [] → filter (λ x. not (p x)) xs ≡ xs
filter-not-none p [] h = refl
filter-not-none {A = A} p (x ∷ xs) h = by (p x) refl h (λ e. filter-not-none p xs e)
  where
    N : List A
    N = filter (λ y. not (p y)) xs

    by : (b : Bool) → p x ≡ b → cond b (x ∷ filter p xs) (filter p xs) ≡ [] → (filter p xs ≡ [] → N ≡ xs) → cond (not b) (x ∷ N) N ≡ x ∷ xs
    by true is e rest = absurd cc
    by false is e rest = ap (λ (l : List A). x ∷ l) (rest e)

-- where those that pass the one test pass the other too, both are the one
pub filter-not-both : {A : Type 0} (p q : A → Bool) (xs : List A) → AllByRecursion (λ x. q x ≡ true) (filter p xs)
    → filter (λ x. not (p x && q x)) xs ≡ filter (λ x. not (p x)) xs
filter-not-both p q [] h = refl
filter-not-both {A = A} p q (x ∷ xs) h = by (p x) h (λ all. filter-not-both p q xs all)
  where
    N : List A
    N = filter (λ y. not (p y)) xs

    B : List A
    B = filter (λ y. not (p y && q y)) xs

    by : (b : Bool) → AllByRecursion (λ y. q y ≡ true) (cond b (x ∷ filter p xs) (filter p xs)) → (AllByRecursion (λ y. q y ≡ true) (filter p xs) → B ≡ N)
        → cond (not (b && q x)) (x ∷ B) B ≡ cond (not b) (x ∷ N) N
    by true all rest = ap (λ (c : Bool). cond (not c) (x ∷ B) B) all.0 ∙ rest all.1
    by false all rest = ap (λ (l : List A). x ∷ l) (rest all)

pub filter-lengths : {A : Type 0} (p : A → Bool) (xs : List A) → length (filter p xs) + length (filter (λ x. not (p x)) xs) ≡ length xs
filter-lengths p [] = refl
filter-lengths {A = A} p (x ∷ xs) = by (p x) (filter-lengths p xs)
  where
    P : List A
    P = filter p xs

    N : List A
    N = filter (λ y. not (p y)) xs

    by : (b : Bool) → length P + length N ≡ length xs → length (cond b (x ∷ P) P) + length (cond (not b) (x ∷ N) N) ≡ suc (length xs)
    by true e = omega arith
    by false e = omega arith
