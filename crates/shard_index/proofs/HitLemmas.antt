-- Hits of documents at places.
use Rattle.std.proofs.Common.{◌≡◌, ℕ, zero, suc, ◌+◌, List, [], ◌∷◌, ◌++◌, length, Bool, true, false, ltb, ◌<◌, ◌≤◌, get_or, Result, Ok, Err, refl, sym, ap, ◌∙◌, subst, arith, take, map, filter, add-zero, cond}
use Rattle.std.specs.Bool.{MatchBool}
use Rattle.std.specs.List.{AllByRecursion, range_with_len}
use Rattle.std.specs.List.Sorted.{IsNonDecreasing}
use Rattle.std.specs.Result.{IfOk}
use Rattle.fan_base.specs.declared.doc.Doc.{Doc}
use Rattle.query_model.specs.declared.reply.Hits.{Hits}
use Rattle.std.proofs.lemmas.Bool.{false≢true, le-ltb}
use Rattle.std.proofs.lemmas.List.{take-map}
use Rattle.query_model.specs.Sorting.{sorted_by, IsInOrder}
use Rattle.shard_index.specs.Places.{places_from, places_where}
use Rattle.shard_index.specs.Selections.{hits_where}
use Rattle.shard_index.proofs.PlaceLemmas.{ids-at, length-places}
use Rattle.shard_index.proofs.Sorted.{ids_sort, sorted_already}

hits-are : (test : Doc → Bool) (docs : List Doc) (ids places : List ℕ) (h : Hits) → ids ≡ map (λ d. d.id) docs → places ≡ places_where test docs
    → h.ids ≡ take 100 (sorted_by ltb (map (λ p. get_or ids p 0) places)) → h.total ≡ length places → h ≡ hits_where test docs
hits-are test docs ids places h are at first many =
    let found : h.ids ≡ take 100 (sorted_by ltb (map (λ d. d.id) (filter test docs))) =
    first ∙ (ap (λ xs. take 100 (sorted_by ltb xs)) ((λ i. map (λ p. get_or (are i) p 0) (at i)) ∙ ids-at test docs)) in
    let total : h.total ≡ length (filter test docs) = many ∙ (ap length at ∙ length-places 0 test docs) in
    λ i. record { ids = found i; total = total i }

pub hits-ok : {E : Type 0} (test : Doc → Bool) (docs : List Doc) (ids places : List ℕ) (r : Result Hits E) → ids ≡ map (λ d. d.id) docs → places ≡ places_where test docs
    → IfOk r (λ h. h.ids ≡ take 100 (sorted_by ltb (map (λ p. get_or ids p 0) places))) → IfOk r (λ h. h.total ≡ length places) → IfOk r (λ h. h ≡ hits_where test docs)
hits-ok test docs ids places (Ok h) are at first many = hits-are test docs ids places h are at first many
hits-ok test docs ids places (Err e) are at first many = tt

pub range-push : (a n : ℕ) → range_with_len a n ++ (a + n) ∷ [] ≡ range_with_len a (n + 1)
range-push a zero = ap (λ k. k ∷ []) (add-zero a)
range-push a (suc n) =
    ap (λ ks. a ∷ ks) (ap (λ k. range_with_len (a + 1) n ++ k ∷ []) (let e : a + suc n ≡ a + 1 + n = omega arith in e) ∙ range-push (a + 1) n)
    ∙ ap (λ k. range_with_len a k) (let e : suc (n + 1) ≡ suc n + 1 = omega arith in e)

all-from : (place : ℕ) (docs : List Doc) → range_with_len place (length docs) ≡ places_from place (λ _. true) docs
all-from place [] = refl
all-from place (d ∷ ds) = ap (λ ks. place ∷ ks) (all-from (place + 1) ds)

-- all places
pub all-of : (docs : List Doc) (n : ℕ) → length docs ≡ n → range_with_len 0 n ≡ places_where (λ _. true) docs
all-of docs n is = ap (λ k. range_with_len 0 k) (sym is) ∙ all-from 0 docs

-- ids in order

none-below : (x : ℕ) (xs : List ℕ) → ((k : ℕ) → k < length xs → x ≤ get_or xs k 0) → AllByRecursion (λ y. ltb y x ≡ false) xs
none-below x [] h = tt
none-below x (y ∷ ys) h = (le-ltb y x (h 0 (omega arith)), none-below x ys (λ k low. h (suc k) (omega arith)))

pub in-order : (xs : List ℕ) → IsNonDecreasing xs → IsInOrder ltb xs
in-order [] h = tt
in-order (x ∷ xs) h = (none-below x xs (λ k low. h 0 (suc k) 0 (omega arith) (omega arith)), in-order xs (λ i j d before low. h (suc i) (suc j) d (omega arith) (omega arith)))

-- what a test of the order tells
pub non-decreasing-where : (P : Type 0) (xs : List ℕ) (r : Bool) → MatchBool r (IsNonDecreasing xs) P → r ≡ true → IsNonDecreasing xs
non-decreasing-where P xs true h is = h
non-decreasing-where P xs false h is = absurd (false≢true is)

all-filter : (P : ℕ → Type 0) (f : Doc → ℕ) (test : Doc → Bool) (docs : List Doc) → AllByRecursion P (map f docs) → AllByRecursion P (map f (filter test docs))
all-filter P f test [] h = tt
all-filter P f test (d ∷ ds) h = by (test d) (all-filter P f test ds h.1)
  where
    by : (b : Bool) → AllByRecursion P (map f (filter test ds)) → AllByRecursion P (map f (cond b (d ∷ filter test ds) (filter test ds)))
    by true more = (h.0, more)
    by false more = more

in-order-filter : (f : Doc → ℕ) (test : Doc → Bool) (docs : List Doc) → IsInOrder ltb (map f docs) → IsInOrder ltb (map f (filter test docs))
in-order-filter f test [] h = tt
in-order-filter f test (d ∷ ds) h = by (test d) (in-order-filter f test ds h.1)
  where
    by : (b : Bool) → IsInOrder ltb (map f (filter test ds)) → IsInOrder ltb (map f (cond b (d ∷ filter test ds) (filter test ds)))
    by true more = (all-filter (λ y. ltb y (f d) ≡ false) f test ds h.0, more)
    by false more = more

-- where all ids are in order, those at the places of documents that pass are
pub order-at : (test : Doc → Bool) (docs : List Doc) (ids places : List ℕ) → ids ≡ map (λ d. d.id) docs → places ≡ places_where test docs → IsInOrder ltb ids → IsInOrder ltb (map (λ p. get_or ids p 0) places)
order-at test docs ids places are at order =
    let found : map (λ p. get_or ids p 0) places ≡ map (λ d. d.id) (filter test docs) = (λ i. map (λ p. get_or (are i) p 0) (at i)) ∙ ids-at test docs in
    subst (IsInOrder ltb) (sym found) (in-order-filter (λ d. d.id) test docs (subst (IsInOrder ltb) are order))

-- the first of those in order
pub first-are : (f : ℕ → ℕ) (first places : List ℕ) → IsInOrder ltb (map f places) → first ≡ map f (take 100 places) → first ≡ take 100 (sorted_by ltb (map f places))
first-are f first places order are = are ∙ (sym (take-map f 100 places) ∙ ap (λ xs. take 100 xs) (sym (sorted_already ltb ids_sort (map f places) order)))
