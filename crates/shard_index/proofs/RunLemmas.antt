-- The joining of two ascending lists of places, where what one has between two places of the other is copied as it is.
use Rattle.std.proofs.Common.{◌≡◌, ℕ, ◌+◌, ◌-◌, ◌<◌, ◌≤◌, List, [], ◌∷◌, ◌++◌, length, Bool, true, false, ◌&&◌, ◌||◌, cond, eqb, ltb, get_or, get_or-drop, get_or-take, length-take, take, drop, refl, sym, ap, subst, ◌∙◌, arith, append_assoc}
use Rattle.std.specs.List.{AllByRecursion}
use Rattle.std.proofs.lemmas.Bool.{eqb-true, ltb-false, ltb-true}
use Rattle.std.proofs.lemmas.Bool.Decides.{nat_tests}
use Rattle.std.proofs.lemmas.List.{drop_all}
use Rattle.std.proofs.lemmas.List.Elements.{All-from_get_or, recursion_from_All}
use Rattle.std.proofs.lemmas.Simd.{chunk-drop}
use Rattle.fan_base.specs.declared.doc.Doc.{Doc}
use Rattle.shard_index.specs.Places.{places_where}
use Rattle.shard_index.proofs.JoinLemmas.{behind, behind-is, from_here, joined, joined-both, joined-first, joined-second, joined-where, none-first, step}
use Rattle.shard_index.proofs.NarrowLemmas.{Ascend}

above : (x y : ℕ) → x ≤ y → eqb y x ≡ false → x < y
above x y low other = grind (arith, nat_tests)

-- lower places of the second list come first
run-second : (x : ℕ) (xs run ys : List ℕ) → AllByRecursion (λ y. y < x) run → joined (x ∷ xs) (run ++ ys) ≡ run ++ joined (x ∷ xs) ys
run-second x xs [] ys low = refl
run-second x xs (y ∷ run) ys low = joined-second x y xs (run ++ ys) low.0 ∙ ap (λ zs. y ∷ zs) (run-second x xs run ys low.1)

-- the next place of the first list, where those of the second below it are passed
next-first : (x : ℕ) (xs ys : List ℕ) (end : ℕ) → (end < length ys → x ≤ get_or ys end 0) → (b c : Bool) → ltb end (length ys) ≡ b → eqb (get_or ys end 0) x ≡ c
    → joined (x ∷ xs) (drop end ys) ≡ x ∷ joined xs (drop (cond (b && c) (end + 1) end) ys)
next-first x xs ys end behind_x false c is same =
    let gone : drop end ys ≡ [] = drop_all end ys (ltb-false end (length ys) is) in
    ap (λ zs. joined (x ∷ xs) zs) gone ∙ (ap (λ zs. x ∷ zs) (sym (none-first xs)) ∙ ap (λ zs. x ∷ joined xs zs) (sym gone))
next-first x xs ys end behind_x true true is same =
    let at : get_or ys end 0 ≡ x = eqb-true (get_or ys end 0) x same in
    ap (λ zs. joined (x ∷ xs) zs) (from_here ys end (ltb-true end (length ys) is))
    ∙ joined-both x (get_or ys end 0) xs (drop (end + 1) ys) (omega (arith, at)) (omega (arith, at))
next-first x xs ys end behind_x true false is same =
    let here = from_here ys end (ltb-true end (length ys) is) in
    ap (λ zs. joined (x ∷ xs) zs) here
    ∙ (joined-first x (get_or ys end 0) xs (drop (end + 1) ys) (above x (get_or ys end 0) (behind_x (ltb-true end (length ys) is)) same) ∙ ap (λ zs. x ∷ joined xs zs) (sym here))

-- of ascending places, those of a run are below what its last one is below
run-below : (ys : List ℕ) (x j end : ℕ) → Ascend ys → end ≤ length ys → (j < end → get_or ys (end - 1) 0 < x) → AllByRecursion (λ y. y < x) (take (end - j) (drop j ys))
run-below ys x j end ascend within front =
    recursion_from_All (λ y. y < x) (take (end - j) (drop j ys)) (All-from_get_or (λ y. y < x) (take (end - j) (drop j ys)) 0 λ i h.
    let low : i < end - j = omega (arith, length-take (end - j) (drop j ys)) in
    subst (λ y. y < x) (sym (get_or-take (end - j) (drop j ys) i 0 low ∙ get_or-drop j ys i 0)) (at (j + i) (omega (arith, low)) (omega (arith, low)) (ltb (j + i) (end - 1)) refl))
  where
    at : (k : ℕ) → j < end → k < end → (b : Bool) → ltb k (end - 1) ≡ b → get_or ys k 0 < x
    at k some low true is = omega (arith, ascend k (end - 1) (ltb-true k (end - 1) is) (omega arith), front some)
    at k some low false is =
        let last : end - 1 ≡ k = (let past = ltb-false k (end - 1) is in omega arith) in
        subst (λ n. get_or ys n 0 < x) last (front some)

-- a step of the loop: a run of the second list, and a place of the first
pub step-run : (xs ys kept with_run with_place whole : List ℕ) (i j end next : ℕ) → Ascend ys → i < length xs → j ≤ end → end ≤ length ys
    → (j < end → get_or ys (end - 1) 0 < get_or xs i 0) → (end < length ys → get_or xs i 0 ≤ get_or ys end 0)
    → next ≡ cond (ltb end (length ys) && eqb (get_or ys end 0) (get_or xs i 0)) (end + 1) end
    → kept ++ joined (drop i xs) (drop j ys) ≡ whole → with_run ≡ kept ++ take (end - j) (drop j ys) → with_place ≡ with_run ++ get_or xs i 0 ∷ []
    → with_place ++ joined (drop (i + 1) xs) (drop next ys) ≡ whole
step-run xs ys kept with_run with_place whole i j end next ascend low order within front behind_x next_is so_far run place =
    step (drop i xs) (drop j ys) kept with_place whole (between ++ x ∷ []) (joined (drop (i + 1) xs) (drop next ys)) so_far here
    (place ∙ (ap (λ zs. zs ++ x ∷ []) run ∙ append_assoc kept between (x ∷ [])))
  where
    x : ℕ
    x = get_or xs i 0

    between : List ℕ
    between = take (end - j) (drop j ys)

    parts : drop j ys ≡ between ++ drop end ys
    parts = chunk-drop j (end - j) ys ∙ ap (λ n. between ++ drop n ys) (let e : j + (end - j) ≡ end = omega arith in e)

    here : joined (drop i xs) (drop j ys) ≡ (between ++ x ∷ []) ++ joined (drop (i + 1) xs) (drop next ys)
    here =
        (λ k. joined (from_here xs i low k) (parts k))
        ∙ (run-second x (drop (i + 1) xs) between (drop end ys) (run-below ys x j end ascend within front)
        ∙ (ap (λ zs. between ++ zs) (next-first x (drop (i + 1) xs) ys end behind_x (ltb end (length ys)) (eqb (get_or ys end 0) x) refl refl
        ∙ ap (λ n. x ∷ joined (drop (i + 1) xs) (drop n ys)) (sym next_is))
        ∙ sym (append_assoc between (x ∷ []) (joined (drop (i + 1) xs) (drop next ys)))))

-- the end of the loop, and what is left of the second list
pub run-end : (p q : Doc → Bool) (docs : List Doc) (xs ys kept all : List ℕ) (i j : ℕ) → length xs ≤ i → xs ≡ places_where p docs → ys ≡ places_where q docs
    → kept ++ joined (drop i xs) (drop j ys) ≡ joined xs ys → all ≡ kept ++ behind j ys → all ≡ places_where (λ doc. p doc || q doc) docs
run-end p q docs xs ys kept all i j past first second so_far last =
    last ∙ (ap (λ zs. kept ++ zs) (behind-is ys j) ∙ (ap (λ zs. kept ++ joined zs (drop j ys)) (sym (drop_all i xs past))
    ∙ (so_far ∙ ((λ k. joined (first k) (second k)) ∙ joined-where p q docs))))
