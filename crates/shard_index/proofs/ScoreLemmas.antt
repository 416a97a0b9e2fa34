-- Scores of documents by weights, word by word, and their bounds.
use Rattle.std.proofs.Common.{◌≡◌, ℕ, zero, suc, ◌+◌, ◌*◌, ◌<◌, ◌≤◌, ◌^◌, List, [], ◌∷◌, ◌++◌, length, Bool, true, false, ◌||◌, cond, eqb, ltb, get_or, refl, sym, ap, ◌∙◌, subst, arith, take, map, filter, zip, true≢false, inl, inr}
use Rattle.std.specs.List.{AllByRecursion, sum_by}
use Rattle.std.specs.Cmp.Lexicographic.{pointwise, bytes_decides}
use Rattle.std.proofs.lemmas.Bool.{cases_lt, le-ltb, lt-ltb, or_parts}
use Rattle.std.proofs.lemmas.List.Sums.{sum_by-cons, sum_by-append}
use Rattle.std.proofs.Math.Nat.{mul-le-mul_left}
use Rattle.fan_base.specs.declared.doc.Doc.{Doc}
use Rattle.fan_base.specs.declared.word.Word.{Word}
use Rattle.query_grammar.specs.Truth.{is_among}
use Rattle.query_model.specs.Answers.{ranked, ranks_before, times_in}
use Rattle.query_model.specs.Sorting.{sorted_by}
use Rattle.query_model.specs.Parts.{weighted_score}
use Rattle.shard_index.specs.Counting.{DifferentWords}
use Rattle.shard_index.specs.Places.{has_one}
use Rattle.shard_index.proofs.WordLemmas.{count_in, count_in-cons, none-count}

-- different words stand in a document no more often than it has words

abbrev hits-word : Word → List Word → ℕ
hits-word x words = sum_by (λ w. cond (pointwise eqb x w) 1 0) words

not-among : (x w : Word) (words : List Word) → pointwise eqb x w ≡ true → is_among w words ≡ false → hits-word x words ≡ 0
not-among x w [] same none = refl
not-among x w (v ∷ vs) same none =
    let apart = or_parts (pointwise eqb v w) (is_among w vs) none in
    sum_by-cons (λ u. cond (pointwise eqb x u) 1 0) v vs ∙ by (pointwise eqb x v) refl apart.0 (not-among x w vs same apart.1)
  where
    by : (b : Bool) → pointwise eqb x v ≡ b → pointwise eqb v w ≡ false → hits-word x vs ≡ 0 → cond b 1 0 + hits-word x vs ≡ 0
    by true is h rest =
        let one : x ≡ v = (bytes_decides x v).0 is in
        absurd (true≢false (sym same ∙ (ap (λ u. pointwise eqb u w) one ∙ h)))
    by false is h rest = omega (arith, rest)

once-at-most : (x : Word) (words : List Word) → DifferentWords words → hits-word x words ≤ 1
once-at-most x [] h = omega arith
once-at-most x (w ∷ ws) h = subst (λ (n : ℕ). n ≤ 1) (sym (sum_by-cons (λ u. cond (pointwise eqb x u) 1 0) w ws)) (by (pointwise eqb x w) refl (once-at-most x ws h.1))
  where
    by : (b : Bool) → pointwise eqb x w ≡ b → hits-word x ws ≤ 1 → cond b 1 0 + hits-word x ws ≤ 1
    by true is rest = let none = not-among x w ws is h.0 in omega (arith, none)
    by false is rest = omega (arith, rest)

no-count : (words : List Word) → sum_by (λ w. count_in w []) words ≡ 0
no-count [] = refl
no-count (w ∷ ws) = let here = sum_by-cons (λ v. count_in v []) w ws in let rest = no-count ws in omega (arith, here, rest)

one-more : (x : Word) (xs words : List Word) → sum_by (λ w. count_in w (x ∷ xs)) words ≡ hits-word x words + sum_by (λ w. count_in w xs) words
one-more x xs [] = refl
one-more x xs (w ∷ ws) =
    let a = sum_by-cons (λ v. count_in v (x ∷ xs)) w ws in
    let b = sum_by-cons (λ v. cond (pointwise eqb x v) 1 0) w ws in
    let d = sum_by-cons (λ v. count_in v xs) w ws in
    let more = one-more x xs ws in
    let here = count_in-cons w x xs ∙ split (pointwise eqb x w) (count_in w xs) in
    omega (arith, a, b, d, more, here)
  where
    split : (b : Bool) (n : ℕ) → cond b (suc n) n ≡ cond b 1 0 + n
    split true n = omega arith
    split false n = omega arith

pub times-few : (xs words : List Word) → DifferentWords words → sum_by (λ w. count_in w xs) words ≤ length xs
times-few [] words h = let none = no-count words in omega (arith, none)
times-few (x ∷ xs) words h =
    let more = one-more x xs words in
    let once = once-at-most x words h in
    let few = times-few xs words h in
    omega (arith, more, once, few)

weighted-le : (m : ℕ) (d : Doc) (words : List Word) (weights : List ℕ) → AllByRecursion (λ g. g < m) weights → weighted_score (zip words weights) d ≤ sum_by (λ w. count_in w d.words) words * m
weighted-le m d [] weights h = omega arith
weighted-le m d (w ∷ ws) [] h = omega arith
weighted-le m d (w ∷ ws) (g ∷ gs) h =
    let a = sum_by-cons (λ (p : Word × ℕ). times_in d p.0 * p.1) (w, g) (zip ws gs) in
    let b = sum_by-cons (λ v. count_in v d.words) w ws in
    let low : g ≤ m = omega (arith, h.0) in
    let one : times_in d w * g ≤ times_in d w * m = mul-le-mul_left (times_in d w) low in
    let rest = weighted-le m d ws gs h.1 in
    let whole : sum_by (λ v. count_in v d.words) (w ∷ ws) * m ≡ times_in d w * m + sum_by (λ v. count_in v d.words) ws * m = ap (λ n. n * m) b ∙ parts (times_in d w) (sum_by (λ v. count_in v d.words) ws) m in
    omega (arith, a, one, rest, whole)
  where
    parts : (x y z : ℕ) → (x + y) * z ≡ x * z + y * z
    parts x y z = omega arith

-- a score fits
pub score-fits : (d : Doc) (words : List Word) (weights : List ℕ) → DifferentWords words → AllByRecursion (λ g. g < 2 ^ 32) weights → length d.words ≤ 1000 → weighted_score (zip words weights) d < 2 ^ 64
score-fits d words weights differ low short =
    let le = weighted-le (2 ^ 32) d words weights low in
    let few = times-few d.words words differ in
    bounded _ _ _ le few short
  where
    bounded : (a b c : ℕ) → a ≤ b * 2 ^ 32 → b ≤ c → c ≤ 1000 → a < 2 ^ 64
    bounded a b c h i j = omega arith

among-take : (w : Word) (n : ℕ) (words : List Word) → is_among w words ≡ false → is_among w (take n words) ≡ false
among-take w zero words h = refl
among-take w (suc n) [] h = refl
among-take w (suc n) (v ∷ vs) h = by (pointwise eqb v w) (among-take w n vs) h
  where
    by : (b : Bool) → (is_among w vs ≡ false → is_among w (take n vs) ≡ false) → (b || is_among w vs) ≡ false → (b || is_among w (take n vs)) ≡ false
    by true rest e = absurd (true≢false e)
    by false rest e = rest e

pub differ-take : (n : ℕ) (words : List Word) → DifferentWords words → DifferentWords (take n words)
differ-take zero words h = tt
differ-take (suc n) [] h = tt
differ-take (suc n) (w ∷ ws) h = (among-take w n ws h.0, differ-take n ws h.1)

-- one word more

zip-step : {A B : Type 0} (xs : List A) (ys : List B) (i : ℕ) (d : A) (e : B) → i < length xs → i < length ys
    → zip (take (suc i) xs) (take (suc i) ys) ≡ zip (take i xs) (take i ys) ++ (get_or xs i d, get_or ys i e) ∷ []
zip-step [] ys i d e a b = absurd (omega arith)
zip-step (u ∷ us) [] i d e a b = absurd (omega arith)
zip-step (u ∷ us) (v ∷ vs) zero d e a b = refl
zip-step {A = A} {B = B} (u ∷ us) (v ∷ vs) (suc i) d e a b = ap (λ (ps : List (A × B)). (u, v) ∷ ps) (zip-step us vs i d e (omega arith) (omega arith))

pub zip-push : {A B : Type 0} (xs : List A) (ys : List B) (i : ℕ) (d : A) (e : B) → i < length xs → i < length ys
    → zip (take (i + 1) xs) (take (i + 1) ys) ≡ zip (take i xs) (take i ys) ++ (get_or xs i d, get_or ys i e) ∷ []
zip-push xs ys i d e a b = ap (λ n. zip (take n xs) (take n ys)) (let s : i + 1 ≡ suc i = omega arith in s) ∙ zip-step xs ys i d e a b

pub score-more : (d : Doc) (words : List Word) (weights : List ℕ) (i : ℕ) (v : Word) → i < length words → i < length weights
    → weighted_score (zip (take i words) (take i weights)) d + times_in d (get_or words i v) * get_or weights i 0 ≡ weighted_score (zip (take (i + 1) words) (take (i + 1) weights)) d
score-more d words weights i v a b =
    let f : Word × ℕ → ℕ = λ p. times_in d p.0 * p.1 in
    let pair : Word × ℕ = (get_or words i v, get_or weights i 0) in
    sym (ap (λ ps. sum_by f ps) (zip-push words weights i v 0 a b)
    ∙ (sum_by-append f (zip (take i words) (take i weights)) (pair ∷ []) ∙ ap (λ n. sum_by f (zip (take i words) (take i weights)) + n) (sum_by-cons f pair [] ∙ alone (f pair))))
  where
    alone : (n : ℕ) → n + 0 ≡ n
    alone n = omega arith

-- ids with totals

filter-push : (scores : List (ℕ × ℕ)) (score : ℕ × ℕ) → filter (λ p. ltb 0 p.1) (scores ++ score ∷ []) ≡ cond (ltb 0 score.1) (filter (λ p. ltb 0 p.1) scores ++ score ∷ []) (filter (λ p. ltb 0 p.1) scores)
filter-push [] score = refl
filter-push (s ∷ ss) score = by (ltb 0 s.1) (ltb 0 score.1) (filter-push ss score)
  where
    by : (b c : Bool) → filter (λ p. ltb 0 p.1) (ss ++ score ∷ []) ≡ cond c (filter (λ p. ltb 0 p.1) ss ++ score ∷ []) (filter (λ p. ltb 0 p.1) ss)
        → cond b (s ∷ filter (λ p. ltb 0 p.1) (ss ++ score ∷ [])) (filter (λ p. ltb 0 p.1) (ss ++ score ∷ []))
        ≡ cond c (cond b (s ∷ filter (λ p. ltb 0 p.1) ss) (filter (λ p. ltb 0 p.1) ss) ++ score ∷ []) (cond b (s ∷ filter (λ p. ltb 0 p.1) ss) (filter (λ p. ltb 0 p.1) ss))
    by true true more = ap (λ xs. s ∷ xs) more
    by true false more = ap (λ xs. s ∷ xs) more
    by false true more = more
    by false false more = more

abbrev pub positive : List (ℕ × ℕ) → List (ℕ × ℕ)
positive scores = filter (λ p. ltb 0 p.1) scores

pub positive-one : (scores : List (ℕ × ℕ)) (score : ℕ × ℕ) → ltb 0 score.1 ≡ true → positive scores ++ score ∷ [] ≡ positive (scores ++ score ∷ [])
positive-one scores score some = sym (filter-push scores score ∙ ap (λ c. cond c (positive scores ++ score ∷ []) (positive scores)) some)

pub positive-none : (scores : List (ℕ × ℕ)) (score : ℕ × ℕ) → ltb 0 score.1 ≡ false → positive scores ≡ positive (scores ++ score ∷ [])
positive-none scores score none = sym (filter-push scores score ∙ ap (λ c. cond c (positive scores ++ score ∷ []) (positive scores)) none)

pub zip-at : (xs ys : List ℕ) (i : ℕ) → i < length xs → i < length ys → get_or (zip xs ys) i (0, 0) ≡ (get_or xs i 0, get_or ys i 0)
zip-at [] ys i a b = absurd (omega arith)
zip-at (x ∷ xs) [] i a b = absurd (omega arith)
zip-at (x ∷ xs) (y ∷ ys) zero a b = refl
zip-at (x ∷ xs) (y ∷ ys) (suc i) a b = zip-at xs ys i (omega arith) (omega arith)

pub zip-maps : (score : Doc → ℕ) (docs : List Doc) → zip (map (λ d. d.id) docs) (map score docs) ≡ map (λ d. (d.id, score d)) docs
zip-maps score [] = refl
zip-maps score (d ∷ ds) = ap (λ (ps : List (ℕ × ℕ)). (d.id, score d) ∷ ps) (zip-maps score ds)

-- a document with none of the words has no score
pub no-score : (d : Doc) (words : List Word) (weights : List ℕ) → has_one words d ≡ false → weighted_score (zip words weights) d ≡ 0
no-score d [] weights none = refl
no-score d (w ∷ ws) [] none = refl
no-score d (w ∷ ws) (g ∷ gs) none =
    let apart = or_parts (is_among w d.words) (has_one ws d) none in
    let times : times_in d w ≡ 0 = none-count w d.words apart.0 in
    sum_by-cons (λ (p : Word × ℕ). times_in d p.0 * p.1) (w, g) (zip ws gs) ∙ ((λ k. times k * g + no-score d ws gs apart.1 k) ∙ nothing g)
  where
    nothing : (n : ℕ) → 0 * n + 0 ≡ 0
    nothing n = omega arith

-- documents with none of the words can be left out
pub scores-of-some : (words : List Word) (weights : List ℕ) (test : Doc → Bool) (docs : List Doc) → ((d : Doc) → test d ≡ false → has_one words d ≡ false)
    → positive (map (λ d. (d.id, weighted_score (zip words weights) d)) (filter test docs)) ≡ positive (map (λ d. (d.id, weighted_score (zip words weights) d)) docs)
scores-of-some words weights test [] others = refl
scores-of-some words weights test (d ∷ ds) others = by (test d) (λ e. no-score d words weights (others d e)) (scores-of-some words weights test ds others)
  where
    score : Doc → ℕ
    score = weighted_score (zip words weights)

    pair : Doc → ℕ × ℕ
    pair e = (e.id, score e)

    rest : List (ℕ × ℕ)
    rest = positive (map pair ds)

    by : (b : Bool) → (b ≡ false → score d ≡ 0) → positive (map pair (filter test ds)) ≡ rest
        → positive (map pair (cond b (d ∷ filter test ds) (filter test ds))) ≡ cond (ltb 0 (score d)) (pair d ∷ rest) rest
    by true none more = ap (λ ps. cond (ltb 0 (score d)) (pair d ∷ ps) ps) more
    by false none more = more ∙ sym (ap (λ n. cond (ltb 0 n) (pair d ∷ rest) rest) (none refl))

-- totals one after another

-- a total that is kept
pub one-kept : (k : ℕ) (some more : List (ℕ × ℕ)) (score : ℕ × ℕ) → more ≡ some ++ score ∷ [] → 0 < score.1 → take k (sorted_by ranks_before (positive some ++ score ∷ [])) ≡ take k (ranked more)
one-kept k some more score is high = ap (λ ps. take k (sorted_by ranks_before ps)) (positive-one some score (lt-ltb 0 score.1 high) ∙ ap positive (sym is))

-- a total that is too small to be kept
pub too-small : (k least : ℕ) (kept some more : List (ℕ × ℕ)) (score : ℕ × ℕ) → more ≡ some ++ score ∷ [] → score.1 < least
    → ((s : ℕ × ℕ) (scores : List (ℕ × ℕ)) → 0 < s.1 → s.1 < least → kept ≡ take k (sorted_by ranks_before scores) → kept ≡ take k (sorted_by ranks_before (scores ++ s ∷ [])))
    → kept ≡ take k (ranked some) → kept ≡ take k (ranked more)
too-small k least kept some more score is low skips keeps = elim (cases_lt 0 score.1) [
  | inl high ↦ skips score (positive some) high low keeps ∙ one-kept k some more score is high
  | inr none ↦ keeps ∙ ap (λ ps. take k (sorted_by ranks_before ps)) (positive-none some score (le-ltb 0 score.1 none) ∙ ap positive (sym is))
]
