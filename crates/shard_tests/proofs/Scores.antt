-- Scores of documents by weights: that they fit, and what one word adds.
use Rattle.std.proofs.Common.{◌≡◌, ℕ, suc, ◌+◌, ◌*◌, ◌<◌, ◌≤◌, ◌^◌, List, [], ◌∷◌, length, drop, map, take, zip, All, true, false, get_or, refl, sym, ap, ◌∙◌, arith}
use Rattle.std.proofs.lemmas.List.{at_drop_all}
use Rattle.std.proofs.lemmas.List.Sums.{sum_by-cons}
use Rattle.std.proofs.Math.Seq.{drop-cons}
use Rattle.std.proofs.lemmas.List.Elements.{recursion_from_All}
use Rattle.fan_base.specs.declared.doc.Doc.{Doc}
use Rattle.fan_base.specs.declared.word.Word.{Word}
use Rattle.query_model.specs.Answers.{each_once, score_of, times_in, top_of, weight_of, ranked}
use Rattle.query_model.specs.Parts.{weighted_score, weighted_top}
use Rattle.shard_index.specs.Counting.{DifferentWords}
use Rattle.shard_index.specs.Standing.{AreShort}
use Rattle.shard_index.proofs.ScoreLemmas.{score-fits}
use Rattle.shard_index.proofs.MergeLemmas.{score-is}

-- scores by such weights fit
pub scores_fit : (docs : List Doc) (words : List Word) (weights : List ℕ) → AreShort docs → DifferentWords words → All (λ weight. weight < 2 ^ 32) weights
    → All (λ doc. weighted_score (zip words weights) doc < 2 ^ 64) docs
scores_fit docs words weights short differ low = λ k doc here. score-fits (get_or docs k doc) words weights differ (recursion_from_All _ weights low) (short k doc here)

-- the score by the words from a place on: what the first of them adds, and the rest
pub score_from : (doc : Doc) (words : List Word) (weights : List ℕ) (i : ℕ) (word : Word) → i < length words → i < length weights
    → weighted_score (zip (drop i words) (drop i weights)) doc ≡ times_in doc (get_or words i word) * get_or weights i 0 + weighted_score (zip (drop (i + 1) words) (drop (i + 1) weights)) doc
score_from doc words weights i word a b =
    let next : i + 1 ≡ suc i = omega arith in
    let rest = λ (n : ℕ). weighted_score (zip (drop n words) (drop n weights)) doc in
    ap (λ ws. weighted_score (zip ws (drop i weights)) doc) (drop-cons words i word a)
    ∙ (ap (λ gs. weighted_score (zip (get_or words i word ∷ drop (suc i) words) gs) doc) (drop-cons weights i 0 b)
    ∙ (sum_by-cons (λ (pair : Word × ℕ). times_in doc pair.0 * pair.1) (get_or words i word, get_or weights i 0) (zip (drop (suc i) words) (drop (suc i) weights))
    ∙ ap (λ n. times_in doc (get_or words i word) * get_or weights i 0 + rest n) (sym next)))

pub score_end : (doc : Doc) (words : List Word) (weights : List ℕ) (i : ℕ) → length words ≤ i → weighted_score (zip (drop i words) (drop i weights)) doc ≡ 0
score_end doc words weights i h = at_drop_all (λ ws. weighted_score (zip ws (drop i weights)) doc) words i h

-- the score by the weights of words
by_weights : (docs : List Doc) (words : List Word) (doc : Doc) → weighted_score (zip words (map (weight_of docs) words)) doc ≡ score_of words docs doc
by_weights docs words doc = score-is (weight_of docs) words doc

map_same : {A B : Type 0} (f g : A → B) → ((x : A) → f x ≡ g x) → (xs : List A) → map f xs ≡ map g xs
map_same f g h [] = refl
map_same {B = B} f g h (x ∷ xs) = ap (λ (y : B). y ∷ map f xs) (h x) ∙ ap (λ (ys : List B). g x ∷ ys) (map_same f g h xs)

-- the first by the weights of the words, each once, are the first for the words
pub top_by_weights : (k : ℕ) (words ws : List Word) (weights : List ℕ) (docs : List Doc) (top : List (ℕ × ℕ)) → ws ≡ each_once words → weights ≡ map (weight_of docs) ws
    → top ≡ weighted_top k ws weights docs → top ≡ top_of k words docs
unfolding weighted_top top_of
top_by_weights k words ws weights docs top once are is =
    let given : List ℕ → Doc → ℕ × ℕ = λ gs doc. (doc.id, weighted_score (zip ws gs) doc) in
    let score : List Word → Doc → ℕ × ℕ = λ xs doc. (doc.id, score_of xs docs doc) in
    is ∙ (ap (λ (gs : List ℕ). take k (ranked (map (given gs) docs))) are
    ∙ (ap (λ (scores : List (ℕ × ℕ)). take k (ranked scores)) (map_same (given (map (weight_of docs) ws)) (score ws) (λ doc. ap (λ (n : ℕ). let pair : ℕ × ℕ = (doc.id, n) in pair) (by_weights docs ws doc)) docs)
    ∙ ap (λ (xs : List Word). take k (ranked (map (score xs) docs))) once))
