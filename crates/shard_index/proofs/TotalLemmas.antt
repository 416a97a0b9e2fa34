-- Totals by place: what a weight adds at the places of documents.
use Rattle.std.proofs.Common.{◌≡◌, ℕ, zero, suc, ◌+◌, ◌*◌, ◌<◌, ◌≤◌, List, [], ◌∷◌, ◌++◌, length, Bool, get_or, replicate, refl, sym, ap, ◌∙◌, subst, arith, take, drop, map, set, append_assoc, zero-add}
use Rattle.std.specs.List.{All, AllByRecursion}
use Rattle.std.proofs.lemmas.List.{length-set, length-take-le, length_push, set_at, take_more}
use Rattle.std.proofs.Math.Seq.{get_or-append_seam}
use Rattle.fan_base.specs.declared.doc.Doc.{Doc}
use Rattle.fan_base.specs.declared.word.Word.{Word}
use Rattle.query_model.specs.Answers.{times_in}
use Rattle.shard_index.specs.Places.{places_where, standing_from, standing_of}
use Rattle.shard_index.specs.Totals.{added_at, raised}
use Rattle.word_table.specs.Told.{repeated}
use Rattle.word_table.proofs.ToldLemmas.{repeated-push}
use Rattle.shard_index.proofs.PlaceLemmas.{places-below}

pub length-added : (weight : ℕ) (totals places : List ℕ) → length (added_at weight totals places) ≡ length totals
length-added weight totals [] = refl
length-added weight totals (p ∷ ps) = length-added weight (raised weight totals p) ps ∙ length-set totals p (get_or totals p 0 + weight)

added-append : (weight : ℕ) (totals xs ys : List ℕ) → added_at weight totals (xs ++ ys) ≡ added_at weight (added_at weight totals xs) ys
added-append weight totals [] ys = refl
added-append weight totals (x ∷ xs) ys = added-append weight (raised weight totals x) xs ys

-- no total falls

get-set-le : (xs : List ℕ) (i k v : ℕ) → get_or xs i 0 ≤ v → get_or xs k 0 ≤ get_or (set xs i v) k 0
get-set-le [] i k v h = omega arith
get-set-le (x ∷ xs) zero zero v h = h
get-set-le (x ∷ xs) zero (suc k) v h = omega arith
get-set-le (x ∷ xs) (suc i) zero v h = omega arith
get-set-le (x ∷ xs) (suc i) (suc k) v h = get-set-le xs i k v h

get-set : (xs : List ℕ) (i v : ℕ) → i < length xs → get_or (set xs i v) i 0 ≡ v
get-set [] i v h = absurd (omega arith)
get-set (x ∷ xs) zero v h = refl
get-set (x ∷ xs) (suc i) v h = get-set xs i v (omega arith)

grows : (weight : ℕ) (totals places : List ℕ) (k : ℕ) → get_or totals k 0 ≤ get_or (added_at weight totals places) k 0
grows weight totals [] k = omega arith
grows weight totals (p ∷ ps) k = omega (arith, get-set-le totals p k (get_or totals p 0 + weight) (omega arith), grows weight (raised weight totals p) ps k)

all-got : (n : ℕ) (xs : List ℕ) (k : ℕ) → AllByRecursion (λ x. x < n) xs → k < length xs → get_or xs k 0 < n
all-got n [] k h within = absurd (omega arith)
all-got n (x ∷ xs) zero h within = h.0
all-got n (x ∷ xs) (suc k) h within = all-got n xs k h.1 (omega arith)

set-same : (xs : List ℕ) (i : ℕ) → xs ≡ set xs i (get_or xs i 0)
set-same [] i = refl
set-same (x ∷ xs) zero = refl
set-same (x ∷ xs) (suc i) = ap (λ (ys : List ℕ). x ∷ ys) (set-same xs i)

set-set : (xs : List ℕ) (i v w : ℕ) → set (set xs i v) i w ≡ set xs i w
set-set [] i v w = refl
set-set (x ∷ xs) zero v w = refl
set-set (x ∷ xs) (suc i) v w = ap (λ (ys : List ℕ). x ∷ ys) (set-set xs i v w)

-- a weight several times at one place
added-replicate : (weight n p : ℕ) (totals : List ℕ) → p < length totals → added_at weight totals (replicate n p) ≡ set totals p (get_or totals p 0 + n * weight)
added-replicate weight zero p totals within =
    set-same totals p ∙ ap (λ (v : ℕ). set totals p v) (let e : get_or totals p 0 ≡ get_or totals p 0 + 0 * weight = omega arith in e)
added-replicate weight (suc n) p totals within =
    added-replicate weight n p (raised weight totals p) (omega (arith, within, length-set totals p (get_or totals p 0 + weight)))
    ∙ (ap (λ (v : ℕ). set (raised weight totals p) p (v + n * weight)) (get-set totals p (get_or totals p 0 + weight) within)
    ∙ (set-set totals p (get_or totals p 0 + weight) (get_or totals p 0 + weight + n * weight)
    ∙ ap (λ (v : ℕ). set totals p v) (let e : get_or totals p 0 + weight + n * weight ≡ get_or totals p 0 + suc n * weight = omega arith in e)))

-- of places with their times one place more
repeated-more : (places times : List ℕ) (i : ℕ) → i < length places → length times ≡ length places
    → repeated (take (i + 1) places) (take (i + 1) times) ≡ repeated (take i places) (take i times) ++ replicate (get_or times i 0) (get_or places i 0)
repeated-more places times i within many =
    (λ k. repeated (take_more places i 0 within k) (take_more times i 0 (omega (arith, within, many)) k))
    ∙ repeated-push (take i places) (take i times) (get_or places i 0) (get_or times i 0)
    (omega (arith, length-take-le i places (omega (arith, within)), length-take-le i times (omega (arith, within, many))))

pub added-more : (weight : ℕ) (totals places times : List ℕ) (i : ℕ) → i < length places → length times ≡ length places → get_or places i 0 < length totals
    → let before = added_at weight totals (repeated (take i places) (take i times)) in
    added_at weight totals (repeated (take (i + 1) places) (take (i + 1) times)) ≡ set before (get_or places i 0) (get_or before (get_or places i 0) 0 + get_or times i 0 * weight)
added-more weight totals places times i within many low =
    let done = repeated (take i places) (take i times) in
    ap (λ (ps : List ℕ). added_at weight totals ps) (repeated-more places times i within many)
    ∙ (added-append weight totals done (replicate (get_or times i 0) (get_or places i 0))
    ∙ added-replicate weight (get_or times i 0) (get_or places i 0) (added_at weight totals done) (omega (arith, low, length-added weight totals done)))

repeated-split : (k : ℕ) (places times : List ℕ) → length times ≡ length places → repeated (take k places) (take k times) ++ repeated (drop k places) (drop k times) ≡ repeated places times
repeated-split zero places times many = refl
repeated-split (suc k) [] [] many = refl
repeated-split (suc k) [] (t ∷ ts) many = absurd (omega (arith, many))
repeated-split (suc k) (p ∷ ps) [] many = absurd (omega (arith, many))
repeated-split (suc k) (p ∷ ps) (t ∷ ts) many =
    append_assoc (replicate t p) (repeated (take k ps) (take k ts)) (repeated (drop k ps) (drop k ts))
    ∙ ap (λ (rs : List ℕ). replicate t p ++ rs) (repeated-split k ps ts (omega (arith, many)))

-- where all totals fit in the end, the one that is raised next fits
pub next-fits : (n weight : ℕ) (totals places times : List ℕ) (i : ℕ) → AllByRecursion (λ x. x < n) (added_at weight totals (repeated places times)) → i < length places → length times ≡ length places
    → get_or places i 0 < length totals → get_or (added_at weight totals (repeated (take i places) (take i times))) (get_or places i 0) 0 + get_or times i 0 * weight < n
next-fits n weight totals places times i fits within many low =
    let p = get_or places i 0 in
    let before = added_at weight totals (repeated (take i places) (take i times)) in
    let v = get_or before p 0 + get_or times i 0 * weight in
    let done = repeated (take (i + 1) places) (take (i + 1) times) in
    let rest = repeated (drop (i + 1) places) (drop (i + 1) times) in
    let whole : added_at weight totals (repeated places times) ≡ added_at weight (set before p v) rest =
    ap (λ (ps : List ℕ). added_at weight totals ps) (sym (repeated-split (i + 1) places times many))
    ∙ (added-append weight totals done rest ∙ ap (λ (ts : List ℕ). added_at weight ts rest) (added-more weight totals places times i within many low)) in
    let long : p < length before = omega (arith, low, length-added weight totals (repeated (take i places) (take i times))) in
    let last = all-got n (added_at weight totals (repeated places times)) p fits (omega (arith, low, length-added weight totals (repeated places times))) in
    omega (arith, get-set before p v long, grows weight (set before p v) rest p, ap (λ (ts : List ℕ). get_or ts p 0) whole, last)

-- totals of documents

raised-middle : (weight : ℕ) (xs ys : List ℕ) (y place : ℕ) → place ≡ length xs → raised weight (xs ++ y ∷ ys) place ≡ xs ++ (y + weight) ∷ ys
raised-middle weight xs ys y place is =
    ap (λ n. set (xs ++ y ∷ ys) place (n + weight)) (ap (λ n. get_or (xs ++ y ∷ ys) n 0) is ∙ get_or-append_seam xs y ys 0)
    ∙ set_at xs y ys (y + weight) place (sym is)

added-again : (weight n place : ℕ) (xs ys more : List ℕ) (y : ℕ) → place ≡ length xs → added_at weight (xs ++ y ∷ ys) (replicate n place ++ more) ≡ added_at weight (xs ++ (y + n * weight) ∷ ys) more
added-again weight zero place xs ys more y is = ap (λ k. added_at weight (xs ++ k ∷ ys) more) (let e : y ≡ y + 0 * weight = omega arith in e)
added-again weight (suc n) place xs ys more y is =
    ap (λ zs. added_at weight zs (replicate n place ++ more)) (raised-middle weight xs ys y place is)
    ∙ (added-again weight n place xs ys more (y + weight) is ∙ ap (λ k. added_at weight (xs ++ k ∷ ys) more) (let e : y + weight + n * weight ≡ y + suc n * weight = omega arith in e))

added-standing : (weight place : ℕ) (word : Word) (score : Doc → ℕ) (before : List ℕ) (docs : List Doc) → place ≡ length before
    → added_at weight (before ++ map score docs) (standing_from place word docs) ≡ before ++ map (λ d. score d + (times_in d word) * weight) docs
added-standing weight place word score before [] is = refl
added-standing weight place word score before (d ∷ ds) is =
    let n = score d + (times_in d word) * weight in
    added-again weight (times_in d word) place before (map score ds) (standing_from (place + 1) word ds) (score d) is
    ∙ (ap (λ xs. added_at weight xs (standing_from (place + 1) word ds)) (sym (append_assoc before (n ∷ []) (map score ds)))
    ∙ (added-standing weight (place + 1) word score (before ++ n ∷ []) ds (ap (λ k. k + 1) is ∙ sym (length_push before n))
    ∙ append_assoc before (n ∷ []) (map (λ d. score d + (times_in d word) * weight) ds)))

-- what a word adds in all
pub added-word : (weight : ℕ) (word : Word) (score : Doc → ℕ) (docs : List Doc)
    → added_at weight (map score docs) (standing_of word docs) ≡ map (λ d. score d + times_in d word * weight) docs
added-word weight word score docs = added-standing weight 0 word score [] docs refl

-- facts of all, by recursion and by places
pub all-rec : {A : Type 0} (P : A → Type 0) (xs : List A) → All P xs → AllByRecursion P xs
all-rec P [] h = tt
all-rec P (x ∷ xs) h = (h 0 x (omega arith), all-rec P xs (λ k d within. h (suc k) d (omega arith)))

pub all-places : {A : Type 0} (P : A → Type 0) (xs : List A) → AllByRecursion P xs → All P xs
all-places P [] h k d within = absurd (omega arith)
all-places P (x ∷ xs) h zero d within = h.0
all-places P (x ∷ xs) h (suc k) d within = all-places P xs h.1 k d (omega arith)

all-map : (f : Doc → ℕ) (n : ℕ) (docs : List Doc) → AllByRecursion (λ d. f d < n) docs → AllByRecursion (λ t. t < n) (map f docs)
all-map f n [] h = tt
all-map f n (d ∷ ds) h = (h.0, all-map f n ds h.1)

-- what is to be known to add a word
pub word-fits : (weight : ℕ) (word : Word) (score : Doc → ℕ) (docs : List Doc) (totals places : List ℕ) (n : ℕ) → AllByRecursion (λ d. score d + times_in d word * weight < n) docs
    → totals ≡ map score docs → places ≡ standing_of word docs → All (λ t. t < n) (added_at weight totals places)
word-fits weight word score docs totals places n room is at =
    subst (λ (ts : List ℕ). All (λ t. t < n) ts) (sym ((λ i. added_at weight (is i) (at i)) ∙ added-word weight word score docs))
    (all-places (λ t. t < n) (map (λ d. score d + times_in d word * weight) docs) (all-map (λ d. score d + times_in d word * weight) n docs room))

pub places-within : (test : Doc → Bool) (docs : List Doc) (places : List ℕ) (n : ℕ) → places ≡ places_where test docs → n ≡ length docs → All (λ p. p < n) places
places-within test docs places n at many =
    subst (λ (ps : List ℕ). All (λ p. p < n) ps) (sym at) (all-places (λ p. p < n) (places_where test docs)
    (subst (λ (m : ℕ). AllByRecursion (λ p. p < m) (places_where test docs)) (zero-add (length docs) ∙ sym many) (places-below 0 test docs)))
