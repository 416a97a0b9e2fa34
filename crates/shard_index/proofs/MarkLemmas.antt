-- Marks by place: what is set at the places of documents, and how many are set.
use Rattle.std.proofs.Common.{◌≡◌, ℕ, zero, suc, ◌+◌, ◌<◌, ◌≤◌, List, [], ◌∷◌, ◌++◌, length, Bool, true, false, ◌||◌, cond, get_or, replicate, refl, sym, ap, ◌∙◌, arith, take, filter, map, set, append_assoc, zero-add}
use mir.Val.{bool_byte}
use Rattle.std.specs.List.{count_by}
use Rattle.std.proofs.lemmas.List.{get_or-map, length-set, length-take-le, length_push, set_at, take_more}
use Rattle.std.proofs.lemmas.List.Sums.{count_by_more_no, count_by_more_yes, fold_push, length-filter, sum_by-cons}
use Rattle.std.proofs.Math.Bool.{or-false, or-true}
use Rattle.fan_base.specs.declared.doc.Doc.{Doc}
use Rattle.shard_index.specs.Places.{places_from, places_where}
use Rattle.shard_index.specs.Totals.{marked_at}
use Rattle.shard_index.proofs.PlaceLemmas.{places-push}

pub length-marked : (marks : List Bool) (places : List ℕ) → length (marked_at marks places) ≡ length marks
length-marked marks [] = refl
length-marked marks (p ∷ ps) = length-marked (set marks p true) ps ∙ length-set marks p true

pub marked-more : (marks : List Bool) (places : List ℕ) (i place : ℕ) → i < length places → place ≡ get_or places i place → marked_at marks (take (i + 1) places) ≡ set (marked_at marks (take i places)) place true
marked-more marks places i place within is =
    let longer : take (i + 1) places ≡ take i places ++ place ∷ [] = take_more places i place within ∙ ap (λ n. take i places ++ n ∷ []) (sym is) in
    ap (λ ps. marked_at marks ps) longer ∙ fold_push (λ ms p. set ms p true) marks (take i places) place

-- no mark
pub count-none : (n : ℕ) → count_by (λ b. b) (replicate n false) ≡ 0
count-none zero = refl
count-none (suc n) = sum_by-cons (λ b. cond b 1 0) false (replicate n false) ∙ (zero-add (count_by (λ b. b) (replicate n false)) ∙ count-none n)

marked-from : (place : ℕ) (test mark : Doc → Bool) (before : List Bool) (docs : List Doc) → place ≡ length before
    → marked_at (before ++ map mark docs) (places_from place test docs) ≡ before ++ map (λ d. mark d || test d) docs
marked-from place test mark before [] is = refl
marked-from place test mark before (d ∷ ds) is =
    by (test d) (λ b. marked-from (place + 1) test mark (before ++ b ∷ []) ds (ap (λ k. k + 1) is ∙ sym (length_push before b)))
  where
    rest : List Bool
    rest = map (λ e. mark e || test e) ds

    by : (b : Bool) → ((c : Bool) → marked_at ((before ++ c ∷ []) ++ map mark ds) (places_from (place + 1) test ds) ≡ (before ++ c ∷ []) ++ rest)
        → marked_at (before ++ mark d ∷ map mark ds) (cond b (place ∷ places_from (place + 1) test ds) (places_from (place + 1) test ds)) ≡ before ++ (mark d || b) ∷ rest
    by true more =
        ap (λ xs. marked_at xs (places_from (place + 1) test ds)) (set_at before (mark d) (map mark ds) true place (sym is) ∙ sym (append_assoc before (true ∷ []) (map mark ds)))
        ∙ (more true ∙ (append_assoc before (true ∷ []) rest ∙ ap (λ c. before ++ c ∷ rest) (sym (or-true (mark d)))))
    by false more =
        ap (λ xs. marked_at xs (places_from (place + 1) test ds)) (sym (append_assoc before (mark d ∷ []) (map mark ds)))
        ∙ (more (mark d) ∙ (append_assoc before (mark d ∷ []) rest ∙ ap (λ c. before ++ c ∷ rest) (sym (or-false (mark d)))))

-- one word more
pub marked-word : (test mark : Doc → Bool) (docs : List Doc) → marked_at (map mark docs) (places_where test docs) ≡ map (λ d. mark d || test d) docs
marked-word test mark docs = marked-from 0 test mark [] docs refl

unmarked : (docs : List Doc) → replicate (length docs) false ≡ map (λ d. false) docs
unmarked [] = refl
unmarked (d ∷ ds) = ap (λ bs. false ∷ bs) (unmarked ds)

pub no-marks : (docs : List Doc) (n : ℕ) → length docs ≡ n → replicate n false ≡ map (λ d. false) docs
no-marks docs n is = ap (λ k. replicate k false) (sym is) ∙ unmarked docs

pub count-marked : (mark : Doc → Bool) (docs : List Doc) → count_by (λ b. b) (map mark docs) ≡ count_by mark docs
count-marked mark [] = refl
count-marked mark (d ∷ ds) =
    sum_by-cons (λ b. cond b 1 0) (mark d) (map mark ds) ∙ (ap (λ n. cond (mark d) 1 0 + n) (count-marked mark ds) ∙ sym (sum_by-cons (λ e. cond (mark e) 1 0) d ds))

-- the places of marks, one mark more
pub places-more : (test : Doc → Bool) (docs : List Doc) (i : ℕ) (mark d : Bool) → i < length docs → mark ≡ get_or (map test docs) i d
    → places_where test (take (i + 1) docs) ≡ cond mark (places_where test (take i docs) ++ i ∷ []) (places_where test (take i docs))
places-more test [] i mark d within is = absurd (omega (arith, within))
places-more test (first ∷ rest) i mark d within is =
    let docs : List Doc = first ∷ rest in
    let doc : Doc = get_or docs i first in
    let here : test doc ≡ mark = sym (is ∙ get_or-map test docs i first d within) in
    let many : length (take i docs) ≡ i = length-take-le i docs (let h : i ≤ length docs = omega (arith, within) in h) in
    ap (places_where test) (take_more docs i first within) ∙ (places-push test (take i docs) doc
    ∙ (λ k. cond (here k) (places_where test (take i docs) ++ many k ∷ []) (places_where test (take i docs))))

-- one mark more is counted
pub one-count : (count i step : ℕ) (b : Bool) → count ≤ i → step ≡ bool_byte b → count + step ≤ i + 1
one-count count i step true few is = omega (arith, few, is)
one-count count i step false few is = omega (arith, few, is)

pub counted-more : (marks : List Bool) (i count step : ℕ) (b : Bool) → i < length marks → get_or marks i false ≡ b → step ≡ bool_byte b → count ≡ count_by (λ m. m) (take i marks)
    → count + step ≡ count_by (λ m. m) (take (i + 1) marks)
counted-more marks i count step true low is one are = let more = count_by_more_yes (λ m. m) marks i false low is in omega (arith, more, one, are)
counted-more marks i count step false low is one are = let more = count_by_more_no (λ m. m) marks i false low is in omega (arith, more, one, are)

pub counted-where : (test : Doc → Bool) (docs : List Doc) (marks : List Bool) (count : ℕ) → marks ≡ map test docs → count ≡ count_by (λ m. m) marks → count ≡ length (filter test docs)
counted-where test docs marks count are is = is ∙ (ap (λ ms. count_by (λ m. m) ms) are ∙ (count-marked test docs ∙ sym (length-filter test docs)))
