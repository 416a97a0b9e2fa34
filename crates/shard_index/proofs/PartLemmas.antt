-- The part of a shard: one more document, and the first documents.
use Rattle.std.proofs.Common.{◌≡◌, ℕ, zero, suc, ◌+◌, ◌-◌, ◌*◌, ◌/◌, ◌%◌, ◌<◌, ◌≤◌, List, [], ◌∷◌, ◌++◌, length, Bool, true, false, cond, eqb, take, get_or, min, Some, None, zero-add, refl, sym, ap, ◌∙◌, subst, arith, add-zero, inl, inr}
use Rattle.std.specs.List.{slice_get}
use Rattle.std.proofs.lemmas.Bool.{cases_lt, eq-eqb, ne_eqb}
use Rattle.std.proofs.lemmas.Grind.{div_ceil_times}
use Rattle.std.proofs.lemmas.List.{get_or_append_left, get_or_push, length_push, take_more, length-take-le, take_min}
use Rattle.std.proofs.Math.Nat.{mul-le-mul_right}
use Rattle.fan_base.specs.declared.doc.Doc.{Doc}
use Rattle.query_model.specs.Parts.{part_before, part_from, part_of}
use Rattle.shard_index.specs.declared.shard.Shard.{Shard}
use Rattle.shard_index.specs.Standing.{StandsFor}

part_from-push : (place shards number : ℕ) (docs : List Doc) (doc : Doc) → part_from place (docs ++ doc ∷ []) shards number ≡ cond (eqb ((place + length docs) % shards) number) (part_from place docs shards number ++ doc ∷ []) (part_from place docs shards number)
part_from-push place shards number [] doc = ap (λ n. cond (eqb (n % shards) number) (doc ∷ []) []) (sym (add-zero place))
part_from-push place shards number (d ∷ ds) doc =
    by (eqb (place % shards) number) (eqb ((place + 1 + length ds) % shards) number) (ap (λ n. eqb (n % shards) number) shifted) (part_from-push (place + 1) shards number ds doc)
  where
    shifted : place + 1 + length ds ≡ place + suc (length ds)
    shifted = omega arith

    rest : List Doc
    rest = part_from (place + 1) ds shards number

    by : (b c : Bool) → c ≡ eqb ((place + suc (length ds)) % shards) number
        → part_from (place + 1) (ds ++ doc ∷ []) shards number ≡ cond c (rest ++ doc ∷ []) rest
        → cond b (d ∷ part_from (place + 1) (ds ++ doc ∷ []) shards number) (part_from (place + 1) (ds ++ doc ∷ []) shards number) ≡ cond (eqb ((place + suc (length ds)) % shards) number) (cond b (d ∷ rest) rest ++ doc ∷ []) (cond b (d ∷ rest) rest)
    by true true is more = ap (λ ds. d ∷ ds) more ∙ ap (λ c. cond c (d ∷ (rest ++ doc ∷ [])) (d ∷ rest)) is
    by true false is more = ap (λ ds. d ∷ ds) more ∙ ap (λ c. cond c (d ∷ (rest ++ doc ∷ [])) (d ∷ rest)) is
    by false true is more = more ∙ ap (λ c. cond c (rest ++ doc ∷ []) rest) is
    by false false is more = more ∙ ap (λ c. cond c (rest ++ doc ∷ []) rest) is

pub part_of-push : (shards number : ℕ) (docs : List Doc) (doc : Doc) → part_of (docs ++ doc ∷ []) shards number ≡ cond (eqb (length docs % shards) number) (part_of docs shards number ++ doc ∷ []) (part_of docs shards number)
part_of-push shards number docs doc = part_from-push 0 shards number docs doc ∙ ap (λ n. cond (eqb (n % shards) number) (part_of docs shards number ++ doc ∷ []) (part_of docs shards number)) (zero-add (length docs))

-- a step of the loop that takes a document of the part, and of one that passes over it
pub part_taken : (docs : List Doc) (shards number place : ℕ) (doc : Doc) → place < length docs → doc ≡ get_or docs place doc → eqb (place % shards) number ≡ true → part_of (take (place + 1) docs) shards number ≡ part_of (take place docs) shards number ++ doc ∷ []
part_taken docs shards number place doc within is mine =
    let longer : take (place + 1) docs ≡ take place docs ++ doc ∷ [] = take_more docs place doc within ∙ ap (λ d. take place docs ++ d ∷ []) (sym is) in
    let many : length (take place docs) ≡ place = length-take-le place docs (omega arith) in
    ap (λ ds. part_of ds shards number) longer ∙ (part_of-push shards number (take place docs) doc
    ∙ ap (λ b. cond b (part_of (take place docs) shards number ++ doc ∷ []) (part_of (take place docs) shards number)) (ap (λ n. eqb (n % shards) number) many ∙ mine))

pub part_passed : (docs : List Doc) (shards number place : ℕ) (doc : Doc) → place < length docs → doc ≡ get_or docs place doc → eqb (place % shards) number ≡ false → part_of (take (place + 1) docs) shards number ≡ part_of (take place docs) shards number
part_passed docs shards number place doc within is others =
    let longer : take (place + 1) docs ≡ take place docs ++ doc ∷ [] = take_more docs place doc within ∙ ap (λ d. take place docs ++ d ∷ []) (sym is) in
    let many : length (take place docs) ≡ place = length-take-le place docs (omega arith) in
    ap (λ ds. part_of ds shards number) longer ∙ (part_of-push shards number (take place docs) doc
    ∙ ap (λ b. cond b (part_of (take place docs) shards number ++ doc ∷ []) (part_of (take place docs) shards number)) (ap (λ n. eqb (n % shards) number) many ∙ others))

pub taken : (docs : List Doc) (shards number place : ℕ) (doc : Doc) → place < length docs → doc ≡ get_or docs place doc → place % shards ≡ number → part_of (take (place + 1) docs) shards number ≡ part_of (take place docs) shards number ++ doc ∷ []
taken docs shards number place doc within is mine = part_taken docs shards number place doc within is (eq-eqb (place % shards) number mine)

pub passed : (docs : List Doc) (shards number place : ℕ) (doc : Doc) → place < length docs → doc ≡ get_or docs place doc → (place % shards ≡ number → ⊥) → part_of (take (place + 1) docs) shards number ≡ part_of (take place docs) shards number
passed docs shards number place doc within is others = part_passed docs shards number place doc within is (ne_eqb (place % shards) number others)

part_from-few : (place shards number : ℕ) (docs : List Doc) → length (part_from place docs shards number) ≤ length docs
part_from-few place shards number [] = omega arith
part_from-few place shards number (d ∷ ds) = by (eqb (place % shards) number) (part_from-few (place + 1) shards number ds)
  where
    by : (b : Bool) → length (part_from (place + 1) ds shards number) ≤ length ds → length (cond b (d ∷ part_from (place + 1) ds shards number) (part_from (place + 1) ds shards number)) ≤ suc (length ds)
    by true few = omega (arith, few)
    by false few = omega (arith, few)

pub part-few : (shards number : ℕ) (docs : List Doc) → length (part_of docs shards number) ≤ length docs
part-few shards number docs = part_from-few 0 shards number docs

-- the front of a part

same-list : (xs ys : List Doc) → ((i : ℕ) → slice_get xs i ≡ slice_get ys i) → xs ≡ ys
same-list [] [] h = refl
same-list [] (y ∷ ys) h = absurd (let e = h 0 in cc)
same-list (x ∷ xs) [] h = absurd (let e = h 0 in cc)
same-list (x ∷ xs) (y ∷ ys) h =
    let first : x ≡ y = some-same x y (h 0) in
    let rest = same-list xs ys (λ i. h (suc i)) in
    λ i. first i ∷ rest i
  where
    some-same : (a b : Doc) → Some a ≡ Some b → a ≡ b
    some-same a b e = cc

got-before : (xs : List Doc) (n i : ℕ) → i < n → slice_get (take n xs) i ≡ slice_get xs i
got-before [] n i h = ap (λ (ys : List Doc). slice_get ys i) (take-nil n)
  where
    take-nil : (m : ℕ) → take {A = Doc} m [] ≡ []
    take-nil zero = refl
    take-nil (suc m) = refl
got-before (x ∷ xs) zero i h = absurd (omega arith)
got-before (x ∷ xs) (suc n) zero h = refl
got-before (x ∷ xs) (suc n) (suc i) h = got-before xs n i (omega arith)

got-behind : (xs : List Doc) (n i : ℕ) → n ≤ i → slice_get (take n xs) i ≡ None
got-behind xs zero i h = refl
got-behind [] (suc n) i h = refl
got-behind (x ∷ xs) (suc n) zero h = absurd (omega arith)
got-behind (x ∷ xs) (suc n) (suc i) h = got-behind xs n i (omega arith)

low : (i q s x n before : ℕ) → suc i * s ≤ q * s → q * s < x + s → x ≡ before - n → i * s + n < before
low i q s x n before one two is = omega arith

high : (i q s x n before : ℕ) → q * s ≤ i * s → x ≤ q * s → x ≡ before - n → before ≤ i * s + n
high i q s x n before one two is = omega arith

-- as many of the part are in front as stand at places below `before`
pub front-is : (docs : List Doc) (shards number before count front : ℕ) → number < shards
    → ((ds : List Doc) (s n i : ℕ) → n < s → slice_get (part_of ds s n) i ≡ slice_get ds (i * s + n))
    → count ≡ (before - number) / shards + min 1 ((before - number) % shards) → front ≡ min count (length (part_of docs shards number))
    → take front (part_of docs shards number) ≡ part_before docs shards number before
front-is docs shards number before count front within told counted is =
    ap (λ n. take n (part_of docs shards number)) is ∙ (take_min count (part_of docs shards number) ∙ same-list _ _ each)
  where
    bounds : (before - number ≤ count * shards) × (count * shards < before - number + shards)
    bounds = rw counted (div_ceil_times (before - number) shards (omega arith))

    each : (i : ℕ) → slice_get (take count (part_of docs shards number)) i ≡ slice_get (part_of (take before docs) shards number) i
    each i = elim (cases_lt i count) [
      | inl front_one ↦
          got-before (part_of docs shards number) count i front_one ∙ (told docs shards number i within
          ∙ sym (told (take before docs) shards number i within
          ∙ got-before docs before (i * shards + number) (low i count shards (before - number) number before (mul-le-mul_right shards (omega arith)) bounds.1 refl)))
      | inr behind ↦
          got-behind (part_of docs shards number) count i behind
          ∙ sym (told (take before docs) shards number i within
          ∙ got-behind docs before (i * shards + number) (high i count shards (before - number) number before (mul-le-mul_right shards behind) bounds.0 refl))
    ]

-- one shard more
pub shards-push : (all new : List Shard) (shard : Shard) (docs : List Doc) (shards number : ℕ) → new ≡ all ++ shard ∷ [] → length all ≡ number → StandsFor shard docs shards number
    → ((n : ℕ) (s : Shard) → n < length all → StandsFor (get_or all n s) docs shards n) → (n : ℕ) (s : Shard) → n < length new → StandsFor (get_or new n s) docs shards n
shards-push all new shard docs shards number pushed many stands each n s low = elim (cases_lt n (length all)) [
  | inl less ↦
      subst (λ (t : Shard). StandsFor t docs shards n) (sym (ap (λ (ss : List Shard). get_or ss n s) pushed ∙ get_or_append_left all (shard ∷ []) s n less)) (each n s less)
  | inr more ↦
      let last : length all ≡ n = omega (arith, more, low, ap length pushed, length_push all shard) in
      subst (λ (t : Shard). StandsFor t docs shards n) (sym (ap (λ (ss : List Shard). get_or ss n s) pushed ∙ get_or_push all shard s n last))
      (subst (λ (k : ℕ). StandsFor shard docs shards k) (sym many ∙ last) stands)
]
