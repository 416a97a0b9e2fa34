-- The joining of two ascending lists of places, one at a time, and what is kept.
use Rattle.std.proofs.Common.{◌≡◌, ℕ, suc, ◌+◌, ◌<◌, ◌≤◌, List, [], ◌∷◌, ◌++◌, length, Bool, true, false, ◌||◌, cond, leb, ltb, refl, sym, ap, ◌∙◌, arith, inl, inr, ◌⊎◌, append_assoc, append-nil, get_or, take, drop, ◌-◌, length-drop, drop-cons}
use Rattle.std.proofs.lemmas.List.{drop_all, take_all}
use mir.Val.{bool_byte}
use Rattle.std.specs.List.{AllByRecursion}
use Rattle.std.proofs.lemmas.Bool.{leb-false, leb-true, le-ltb, lt-ltb}
use Rattle.fan_base.specs.declared.doc.Doc.{Doc}
use Rattle.shard_index.specs.Places.{places_from, places_where}
use Rattle.shard_index.proofs.PlaceLemmas.{places-above}

-- a first list that begins with x, joined with a second; `rest` joins what is behind x
abbrev pub joined_from : ℕ → List ℕ → (List ℕ → List ℕ) → List ℕ → List ℕ
joined_from x xs rest [] = x ∷ xs
joined_from x xs rest (y ∷ ys) =
    cond (ltb x y) (x ∷ rest (y ∷ ys))
    (cond (ltb y x) (y ∷ joined_from x xs rest ys) (x ∷ rest ys))

abbrev pub joined : List ℕ → List ℕ → List ℕ
joined [] ys = ys
joined (x ∷ xs) ys = joined_from x xs (λ zs. joined xs zs) ys

-- the smaller place is the first list's, the second's, or both's
pub joined-first : (x y : ℕ) (xs ys : List ℕ) → x < y → joined (x ∷ xs) (y ∷ ys) ≡ x ∷ joined xs (y ∷ ys)
joined-first x y xs ys lt =
    ap (λ b. cond b (x ∷ joined xs (y ∷ ys)) (cond (ltb y x) (y ∷ joined (x ∷ xs) ys) (x ∷ joined xs ys))) (lt-ltb x y lt)

pub joined-second : (x y : ℕ) (xs ys : List ℕ) → y < x → joined (x ∷ xs) (y ∷ ys) ≡ y ∷ joined (x ∷ xs) ys
joined-second x y xs ys lt =
    ap (λ b. cond b (x ∷ joined xs (y ∷ ys)) (cond (ltb y x) (y ∷ joined (x ∷ xs) ys) (x ∷ joined xs ys))) (le-ltb x y (let h : y ≤ x = omega arith in h))
    ∙ ap (λ b. cond b (y ∷ joined (x ∷ xs) ys) (x ∷ joined xs ys)) (lt-ltb y x lt)

pub joined-both : (x y : ℕ) (xs ys : List ℕ) → y ≤ x → x ≤ y → joined (x ∷ xs) (y ∷ ys) ≡ x ∷ joined xs ys
joined-both x y xs ys below above =
    ap (λ b. cond b (x ∷ joined xs (y ∷ ys)) (cond (ltb y x) (y ∷ joined (x ∷ xs) ys) (x ∷ joined xs ys))) (le-ltb x y below)
    ∙ ap (λ b. cond b (y ∷ joined (x ∷ xs) ys) (x ∷ joined xs ys)) (le-ltb y x above)

pub none-first : (xs : List ℕ) → joined xs [] ≡ xs
none-first [] = refl
none-first (x ∷ xs) = refl

-- a place before all of the other list's
lone-first : (x : ℕ) (xs ys : List ℕ) → AllByRecursion (λ y. x < y) ys → joined (x ∷ xs) ys ≡ x ∷ joined xs ys
lone-first x xs [] all = ap (λ zs. x ∷ zs) (sym (none-first xs))
lone-first x xs (y ∷ ys) all = joined-first x y xs ys all.0

lone-second : (y : ℕ) (xs ys : List ℕ) → AllByRecursion (λ x. y < x) xs → joined xs (y ∷ ys) ≡ y ∷ joined xs ys
lone-second y [] ys all = refl
lone-second y (x ∷ xs) ys all = joined-second x y xs ys all.0

-- the places of documents that pass one of two tests, joined
joined-from : (place : ℕ) (p q : Doc → Bool) (docs : List Doc)
    → joined (places_from place p docs) (places_from place q docs) ≡ places_from place (λ doc. p doc || q doc) docs
joined-from place p q [] = refl
joined-from place p q (d ∷ ds) =
    by (p d) (q d) (joined-from (place + 1) p q ds)
  where
    first : List ℕ
    first = places_from (place + 1) p ds

    second : List ℕ
    second = places_from (place + 1) q ds

    all : List ℕ
    all = places_from (place + 1) (λ doc. p doc || q doc) ds

    by : (b c : Bool) → joined first second ≡ all
        → joined (cond b (place ∷ first) first) (cond c (place ∷ second) second) ≡ cond (b || c) (place ∷ all) all
    by true true more = joined-both place place first second (omega arith) (omega arith) ∙ ap (λ xs. place ∷ xs) more
    by true false more = lone-first place first second (places-above place (place + 1) q ds (omega arith)) ∙ ap (λ xs. place ∷ xs) more
    by false true more = lone-second place first second (places-above place (place + 1) p ds (omega arith)) ∙ ap (λ xs. place ∷ xs) more
    by false false more = more

pub joined-where : (p q : Doc → Bool) (docs : List Doc) → joined (places_where p docs) (places_where q docs) ≡ places_where (λ doc. p doc || q doc) docs
joined-where p q docs = joined-from 0 p q docs

-- a step of the loop: what is kept so far, and the joining of what is left

pub from_here : (xs : List ℕ) (i : ℕ) → i < length xs → drop i xs ≡ get_or xs i 0 ∷ drop (i + 1) xs
from_here xs i within = drop-cons xs i 0 within ∙ ap (λ n. get_or xs i 0 ∷ drop n xs) (let e : suc i ≡ i + 1 = omega arith in e)

pub step : (xs ys kept kept' whole one left : List ℕ) → kept ++ joined xs ys ≡ whole → joined xs ys ≡ one ++ left → kept' ≡ kept ++ one → kept' ++ left ≡ whole
step xs ys kept kept' whole one left so_far here more =
    ap (λ zs. zs ++ left) more ∙ (append_assoc kept one left ∙ (ap (λ zs. kept ++ zs) (sym here) ∙ so_far))

module _ (xs ys kept kept' whole : List ℕ) (i j : ℕ) (within_x : i < length xs) (within_y : j < length ys)
    (so_far : kept ++ joined (drop i xs) (drop j ys) ≡ whole) where
  here : joined (drop i xs) (drop j ys) ≡ joined (get_or xs i 0 ∷ drop (i + 1) xs) (get_or ys j 0 ∷ drop (j + 1) ys)
  here = λ k. joined (from_here xs i within_x k) (from_here ys j within_y k)

  pub step-first : get_or xs i 0 < get_or ys j 0 → kept' ≡ kept ++ get_or xs i 0 ∷ [] → kept' ++ joined (drop (i + 1) xs) (drop j ys) ≡ whole
  step-first lt more = step (drop i xs) (drop j ys) kept kept' whole (get_or xs i 0 ∷ []) (joined (drop (i + 1) xs) (drop j ys)) so_far
      (here ∙ (joined-first (get_or xs i 0) (get_or ys j 0) (drop (i + 1) xs) (drop (j + 1) ys) lt
      ∙ ap (λ zs. get_or xs i 0 ∷ joined (drop (i + 1) xs) zs) (sym (from_here ys j within_y)))) more

  pub step-second : get_or ys j 0 < get_or xs i 0 → kept' ≡ kept ++ get_or ys j 0 ∷ [] → kept' ++ joined (drop i xs) (drop (j + 1) ys) ≡ whole
  step-second lt more = step (drop i xs) (drop j ys) kept kept' whole (get_or ys j 0 ∷ []) (joined (drop i xs) (drop (j + 1) ys)) so_far
      (here ∙ (joined-second (get_or xs i 0) (get_or ys j 0) (drop (i + 1) xs) (drop (j + 1) ys) lt
      ∙ ap (λ zs. get_or ys j 0 ∷ joined zs (drop (j + 1) ys)) (sym (from_here xs i within_x)))) more

  pub step-both : get_or ys j 0 ≤ get_or xs i 0 → get_or xs i 0 ≤ get_or ys j 0 → kept' ≡ kept ++ get_or xs i 0 ∷ [] → kept' ++ joined (drop (i + 1) xs) (drop (j + 1) ys) ≡ whole
  step-both below above more = step (drop i xs) (drop j ys) kept kept' whole (get_or xs i 0 ∷ []) (joined (drop (i + 1) xs) (drop (j + 1) ys)) so_far
      (here ∙ joined-both (get_or xs i 0) (get_or ys j 0) (drop (i + 1) xs) (drop (j + 1) ys) below above) more

  -- the lower of both, and how far each list is gone then
  pub step-least : (up down : Bool) (i' j' least : ℕ) → leb (get_or xs i 0) (get_or ys j 0) ≡ up → leb (get_or ys j 0) (get_or xs i 0) ≡ down → i' ≡ i + bool_byte up → j' ≡ j + bool_byte down
      → least ≡ cond (ltb (get_or ys j 0) (get_or xs i 0)) (get_or ys j 0) (get_or xs i 0) → kept' ≡ kept ++ least ∷ [] → kept' ++ joined (drop i' xs) (drop j' ys) ≡ whole
  step-least false false i' j' least is same on also lower more =
      let below = leb-false (get_or xs i 0) (get_or ys j 0) is in
      let above = leb-false (get_or ys j 0) (get_or xs i 0) same in
      absurd (omega (arith, below, above))
  step-least true false i' j' least is same on also lower more =
      let stay : j' ≡ j = omega (arith, also) in
      let low : least ≡ get_or xs i 0 = lower ∙ ap (λ b. cond b (get_or ys j 0) (get_or xs i 0)) (le-ltb (get_or ys j 0) (get_or xs i 0) (leb-true (get_or xs i 0) (get_or ys j 0) is)) in
      (λ k. kept' ++ joined (drop (on k) xs) (drop (stay k) ys)) ∙ step-first (leb-false (get_or ys j 0) (get_or xs i 0) same) (more ∙ ap (λ n. kept ++ n ∷ []) low)
  step-least false true i' j' least is same on also lower more =
      let stay : i' ≡ i = omega (arith, on) in
      let above : get_or ys j 0 < get_or xs i 0 = leb-false (get_or xs i 0) (get_or ys j 0) is in
      let low : least ≡ get_or ys j 0 = lower ∙ ap (λ b. cond b (get_or ys j 0) (get_or xs i 0)) (lt-ltb (get_or ys j 0) (get_or xs i 0) above) in
      (λ k. kept' ++ joined (drop (stay k) xs) (drop (also k) ys)) ∙ step-second above (more ∙ ap (λ n. kept ++ n ∷ []) low)
  step-least true true i' j' least is same on also lower more =
      let below = leb-true (get_or xs i 0) (get_or ys j 0) is in
      let low : least ≡ get_or xs i 0 = lower ∙ ap (λ b. cond b (get_or ys j 0) (get_or xs i 0)) (le-ltb (get_or ys j 0) (get_or xs i 0) below) in
      (λ k. kept' ++ joined (drop (on k) xs) (drop (also k) ys)) ∙ step-both (leb-true (get_or ys j 0) (get_or xs i 0) same) below (more ∙ ap (λ n. kept ++ n ∷ []) low)

-- one of the lists is used up
pub joined-rest : (xs ys : List ℕ) → (xs ≡ []) ⊎ (ys ≡ []) → xs ++ ys ≡ joined xs ys
joined-rest xs ys (inl none) = ap (λ zs. zs ++ ys) none ∙ sym (ap (λ zs. joined zs ys) none)
joined-rest xs ys (inr none) = ap (λ zs. xs ++ zs) none ∙ (append-nil xs ∙ (sym (none-first xs) ∙ sym (ap (λ zs. joined xs zs) none)))

used_up : (xs ys : List ℕ) (i j : ℕ) → (length ys ≤ j) ⊎ (length xs ≤ i) → (drop i xs ≡ []) ⊎ (drop j ys ≡ [])
used_up xs ys i j (inl past) = inr (drop_all j ys past)
used_up xs ys i j (inr past) = inl (drop_all i xs past)

-- a list from a place on, as a slice to the end gives it
abbrev pub behind : {A : Type 0} → ℕ → List A → List A
behind i xs = take (length xs - i) (drop i xs)

pub behind-is : {A : Type 0} (xs : List A) (i : ℕ) → behind i xs ≡ drop i xs
behind-is xs i = let many = length-drop i xs in take_all (length xs - i) (drop i xs) (omega arith)

-- the end of the loop, and what is left of one of the lists
pub joined-end : (xs ys kept with_first with_second whole : List ℕ) (i j : ℕ) → (length ys ≤ j) ⊎ (length xs ≤ i)
    → kept ++ joined (drop i xs) (drop j ys) ≡ whole → with_first ≡ kept ++ behind i xs → with_second ≡ with_first ++ behind j ys → with_second ≡ whole
joined-end xs ys kept with_first with_second whole i j past so_far first second =
    second ∙ ((λ k. (first k) ++ behind-is ys j k)
    ∙ (ap (λ zs. (kept ++ zs) ++ drop j ys) (behind-is xs i)
    ∙ (append_assoc kept (drop i xs) (drop j ys)
    ∙ (ap (λ zs. kept ++ zs) (joined-rest (drop i xs) (drop j ys) (used_up xs ys i j past)) ∙ so_far))))
