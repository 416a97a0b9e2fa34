-- The first items of parts that are cut already, and the parts of all shards.
use Rattle.std.proofs.Common.{◌≡◌, ℕ, zero, suc, ◌+◌, ◌*◌, ◌/◌, ◌%◌, ◌<◌, ◌≤◌, ◌^◌, List, [], ◌∷◌, ◌++◌, length, Bool, true, false, ◌||◌, cond, eqb, ltb, get_or, refl, sym, ap, ◌∙◌, arith, add-zero, zero-add, map, filter, take, sum, zip, min, inl, inr, true≢false, append-nil, append_assoc}
use Rattle.std.specs.List.{All, AllByRecursion, flat_map, range_with_len, sum_by}
use Rattle.std.specs.Cmp.Lexicographic.{pointwise}
use Rattle.std.proofs.lemmas.Bool.{cases_lt}
use Rattle.std.proofs.lemmas.Bool.Decides.{nat_tests}
use Rattle.std.proofs.lemmas.List.{take-take, take_all, take_more, length-take}
use Rattle.std.proofs.lemmas.List.Sums.{sum_by-cons, sum_by-append, sum_by_more_le, sum-map, count_by-le-length, length-filter}
use Rattle.std.proofs.Math.Nat.{div-le_self}
use Rattle.std.proofs.lemmas.List.FromFn.{map-range_with_len_more}
use Rattle.fan_base.specs.declared.doc.Doc.{Doc}
use Rattle.fan_base.specs.declared.word.Word.{Word}
use Rattle.query_grammar.specs.Tree.{Tree}
use Rattle.query_grammar.specs.Truth.{is_among}
use Rattle.query_model.specs.declared.reply.Hits.{Hits}
use Rattle.query_model.specs.Answers.{each_once, having, hits_of, holding, ranks_before, times_in, top_of, weight_of}
use Rattle.query_model.specs.Parts.{merged_hits, merged_scores, part_before, part_from, part_of, weighted_score, weighted_top}
use Rattle.query_model.specs.Sorting.{put_by, sorted_by}
use Rattle.query_model.proofs.ListLaws.{filter-map}
use Rattle.shard_index.specs.declared.counts.Counts.{Counts}
use Rattle.shard_index.specs.Counting.{counts_of, DifferentWords}
use Rattle.shard_index.specs.Parts.{by_shard, total_with, weight_by, weights_by}
use Rattle.shard_index.specs.Places.{has_word, holds_in}
use Rattle.shard_index.proofs.TotalLemmas.{all-places}
use Rattle.query_model.proofs.SortingLaws.{SameSums, in_order}
use Rattle.shard_index.proofs.Sorted.{Sorts, ids_sort, in_order-take, ranks_sort, same_sorted, sorted_already, take-put_by}

-- the first n of the first n

module _ {A : Type 0} (g : A → A → Bool) (s : Sorts g) where
  take-behind : (n : ℕ) (xs ys zs : List A) → take n (sorted_by g ys) ≡ take n (sorted_by g zs) → take n (sorted_by g (xs ++ ys)) ≡ take n (sorted_by g (xs ++ zs))
  take-behind n [] ys zs same = same
  take-behind n (x ∷ xs) ys zs same =
      take-put_by g n x (sorted_by g (xs ++ ys)) ∙ (ap (λ l. take n (put_by g x l)) (take-behind n xs ys zs same) ∙ sym (take-put_by g n x (sorted_by g (xs ++ zs))))

  turned : (xs ys : List A) → sorted_by g (xs ++ ys) ≡ sorted_by g (ys ++ xs)
  turned xs ys = same_sorted g s (xs ++ ys) (ys ++ xs) (λ f. sum_by-append f xs ys ∙ (crossed (sum_by f xs) (sum_by f ys) ∙ sym (sum_by-append f ys xs)))
    where
      crossed : (a b : ℕ) → a + b ≡ b + a
      crossed a b = omega arith

  take-twice : (n : ℕ) (xs : List A) → take n (sorted_by g (take n (sorted_by g xs))) ≡ take n (sorted_by g xs)
  take-twice n xs =
      ap (λ zs. take n zs) (sorted_already g s (take n (sorted_by g xs)) (in_order-take g n (sorted_by g xs) (in_order g s.order xs))) ∙ take-take n n (sorted_by g xs) (omega arith)

  pub cut-front : (n : ℕ) (xs ys : List A) → take n (sorted_by g (take n (sorted_by g xs) ++ ys)) ≡ take n (sorted_by g (xs ++ ys))
  cut-front n xs ys =
      ap (λ zs. take n zs) (turned (take n (sorted_by g xs)) ys)
      ∙ (take-behind n ys (take n (sorted_by g xs)) xs (take-twice n xs) ∙ ap (λ zs. take n zs) (turned ys xs))

  -- the first n of all are the first n of the first n of each part
  pub cut-parts : (n : ℕ) (part : ℕ → List A) (ks : List ℕ) → take n (sorted_by g (flat_map (λ k. take n (sorted_by g (part k))) ks)) ≡ take n (sorted_by g (flat_map part ks))
  cut-parts n part [] = refl
  cut-parts n part (k ∷ ks) =
      cut-front n (part k) (flat_map (λ j. take n (sorted_by g (part j))) ks)
      ∙ take-behind n (part k) (flat_map (λ j. take n (sorted_by g (part j))) ks) (flat_map part ks) (cut-parts n part ks)

abbrev pub sum_of : (ℕ → ℕ) → List ℕ → ℕ
sum_of f [] = 0
sum_of f (k ∷ ks) = f k + sum_of f ks

sum_of-same : (f g : ℕ → ℕ) (ks : List ℕ) → ((k : ℕ) → f k ≡ g k) → sum_of f ks ≡ sum_of g ks
sum_of-same f g ks same = λ i. sum_of (λ k. same k i) ks

sum_of-none : (ks : List ℕ) → sum_of (λ _. 0) ks ≡ 0
sum_of-none [] = refl
sum_of-none (k ∷ ks) = zero-add (sum_of (λ _. 0) ks) ∙ sum_of-none ks

sum-flat : {A : Type 0} (f : A → ℕ) (part : ℕ → List A) (ks : List ℕ) → sum_by f (flat_map part ks) ≡ sum_of (λ k. sum_by f (part k)) ks
sum-flat f part [] = refl
sum-flat f part (k ∷ ks) = sum_by-append f (part k) (flat_map part ks) ∙ ap (λ m. sum_by f (part k) + m) (sum-flat f part ks)

-- the sum over documents
abbrev pub weigh : (Doc → ℕ) → List Doc → ℕ
weigh f [] = 0
weigh f (doc ∷ docs) = f doc + weigh f docs

missed : (r k w rest : ℕ) → r < k → rest ≡ 0 → cond (eqb r k) w 0 + rest ≡ 0
missed r k w rest below none = grind (arith, nat_tests)

none-below : (r w a n : ℕ) → r < a → sum_of (λ k. cond (eqb r k) w 0) (range_with_len a n) ≡ 0
none-below r w a zero below = refl
none-below r w a (suc n) below = missed r a w (sum_of (λ k. cond (eqb r k) w 0) (range_with_len (a + 1) n)) below (none-below r w (a + 1) n (omega arith))

here-once : (r a w rest : ℕ) → a ≤ r → r ≤ a → rest ≡ 0 → cond (eqb r a) w 0 + rest ≡ w
here-once r a w rest above below none = grind (arith, nat_tests)

later-once : (r a w rest : ℕ) → a < r → rest ≡ w → cond (eqb r a) w 0 + rest ≡ w
later-once r a w rest above is = grind (arith, nat_tests)

-- one of the numbers from a on is r
once : (r w a n : ℕ) → a ≤ r → r < a + n → sum_of (λ k. cond (eqb r k) w 0) (range_with_len a n) ≡ w
once r w a zero above below = absurd (omega arith)
once r w a (suc n) above below = elim (cases_lt a r) [
  | inl later ↦ later-once r a w (sum_of (λ k. cond (eqb r k) w 0) (range_with_len (a + 1) n)) later (once r w (a + 1) n (omega arith) (omega arith))
  | inr here ↦ here-once r a w (sum_of (λ k. cond (eqb r k) w 0) (range_with_len (a + 1) n)) above here (none-below r w (a + 1) n (omega arith))
]

-- what one document adds to the parts
part-more : (f : Doc → ℕ) (place shards : ℕ) (doc : Doc) (docs : List Doc) (ks : List ℕ)
    → sum_of (λ k. weigh f (part_from place (doc ∷ docs) shards k)) ks
    ≡ sum_of (λ k. cond (eqb (place % shards) k) (f doc) 0) ks + sum_of (λ k. weigh f (part_from (place + 1) docs shards k)) ks
part-more f place shards doc docs [] = refl
part-more f place shards doc docs (k ∷ ks) = by (eqb (place % shards) k) (part-more f place shards doc docs ks)
  where
    part : List Doc
    part = part_from (place + 1) docs shards k

    whole : ℕ
    whole = sum_of (λ j. weigh f (part_from place (doc ∷ docs) shards j)) ks

    hits : ℕ
    hits = sum_of (λ j. cond (eqb (place % shards) j) (f doc) 0) ks

    rest : ℕ
    rest = sum_of (λ j. weigh f (part_from (place + 1) docs shards j)) ks

    with_it : (a w s h r : ℕ) → s ≡ h + r → (a + w) + s ≡ (a + h) + (w + r)
    with_it a w s h r e = omega arith

    without : (w s h r : ℕ) → s ≡ h + r → w + s ≡ (0 + h) + (w + r)
    without w s h r e = omega arith

    by : (b : Bool) → whole ≡ hits + rest → weigh f (cond b (doc ∷ part) part) + whole ≡ (cond b (f doc) 0 + hits) + (weigh f part + rest)
    by true more = with_it (f doc) (weigh f part) whole hits rest more
    by false more = without (weigh f part) whole hits rest more

-- the parts of all shards weigh what the documents weigh
parts-whole : (f : Doc → ℕ) (place shards : ℕ) (docs : List Doc) → 0 < shards → sum_of (λ k. weigh f (part_from place docs shards k)) (range_with_len 0 shards) ≡ weigh f docs
parts-whole f place shards [] some = sum_of-none (range_with_len 0 shards)
parts-whole f place shards (d ∷ ds) some =
    let below : place % shards < shards = omega arith in
    part-more f place shards d ds (range_with_len 0 shards)
    ∙ (λ i. once (place % shards) (f d) 0 shards (omega arith) (omega arith) i + parts-whole f (place + 1) shards ds some i)

parts-of-whole : (f : Doc → ℕ) (docs : List Doc) (shards : ℕ) → 0 < shards → sum_of (λ k. weigh f (part_of docs shards k)) (range_with_len 0 shards) ≡ weigh f docs
parts-of-whole f docs shards some = parts-whole f 0 shards docs some

-- what is listed of documents

sum-listed : {A : Type 0} (f : A → ℕ) (h : Doc → A) (test : Doc → Bool) (docs : List Doc) → sum_by f (map h (filter test docs)) ≡ weigh (λ d. cond (test d) (f (h d)) 0) docs
sum-listed f h test [] = refl
sum-listed {A = A} f h test (d ∷ ds) = by (test d) (sum-listed f h test ds)
  where
    rest : ℕ
    rest = weigh (λ e. cond (test e) (f (h e)) 0) ds

    by : (b : Bool) → sum_by f (map h (filter test ds)) ≡ rest → sum_by f (map h (cond b (d ∷ filter test ds) (filter test ds))) ≡ cond b (f (h d)) 0 + rest
    by true more = sum_by-cons f (h d) (map h (filter test ds)) ∙ ap (λ n. f (h d) + n) more
    by false more = more ∙ sym (zero-add rest)

-- the parts of all shards list what the documents list
pub parts-listed : {A : Type 0} (h : Doc → A) (test : Doc → Bool) (docs : List Doc) (shards : ℕ) → 0 < shards
    → SameSums (flat_map (λ k. map h (filter test (part_of docs shards k))) (range_with_len 0 shards)) (map h (filter test docs))
parts-listed h test docs shards some = λ f.
    sum-flat f (λ k. map h (filter test (part_of docs shards k))) (range_with_len 0 shards)
    ∙ (sum_of-same _ _ (range_with_len 0 shards) (λ k. sum-listed f h test (part_of docs shards k))
    ∙ (parts-of-whole (λ d. cond (test d) (f (h d)) 0) docs shards some ∙ sym (sum-listed f h test docs)))

length-weigh : (test : Doc → Bool) (docs : List Doc) → length (filter test docs) ≡ weigh (λ d. cond (test d) 1 0) docs
length-weigh test [] = refl
length-weigh test (d ∷ ds) = by (test d) (length-weigh test ds)
  where
    rest : ℕ
    rest = weigh (λ e. cond (test e) 1 0) ds

    by : (b : Bool) → length (filter test ds) ≡ rest → length (cond b (d ∷ filter test ds) (filter test ds)) ≡ cond b 1 0 + rest
    by true more = omega (arith, more)
    by false more = more ∙ sym (zero-add rest)

pub parts-number : (test : Doc → Bool) (docs : List Doc) (shards : ℕ) → 0 < shards → sum_of (λ k. length (filter test (part_of docs shards k))) (range_with_len 0 shards) ≡ length (filter test docs)
parts-number test docs shards some =
    sum_of-same _ _ (range_with_len 0 shards) (λ k. length-weigh test (part_of docs shards k)) ∙ (parts-of-whole (λ d. cond (test d) 1 0) docs shards some ∙ sym (length-weigh test docs))

flat-mapped : {A B : Type 0} (h : B → List A) (given : ℕ → B) (ks : List ℕ) → flat_map h (map given ks) ≡ flat_map (λ k. h (given k)) ks
flat-mapped h given [] = refl
flat-mapped h given (k ∷ ks) = ap (λ xs. h (given k) ++ xs) (flat-mapped h given ks)

sum-mapped : {B : Type 0} (h : B → ℕ) (given : ℕ → B) (ks : List ℕ) → sum (map h (map given ks)) ≡ sum_of (λ k. h (given k)) ks
sum-mapped h given [] = refl
sum-mapped h given (k ∷ ks) = sum_by-cons (λ n. n) (h (given k)) (map h (map given ks)) ∙ ap (λ n. h (given k) + n) (sum-mapped h given ks)

few-pass : (test : Doc → Bool) (docs : List Doc) → length (filter test docs) ≤ length docs
few-pass test docs = omega (arith, length-filter test docs, count_by-le-length test docs)

pub few-take : (n : ℕ) (docs : List Doc) → length (take n docs) ≤ length docs
few-take n docs = omega (arith, length-take n docs)

-- hits

total-of-parts : (e : Tree) (docs : List Doc) (shards before : ℕ) → 0 < shards
    → sum (map (λ h. h.total) (by_shard (λ k. hits_of e (part_before docs shards k before)) shards)) ≡ length (filter (holds_in e) (take before docs))
unfolding hits_of
total-of-parts e docs shards before some =
    sum-mapped (λ h. h.total) (λ k. hits_of e (part_before docs shards k before)) (range_with_len 0 shards) ∙ parts-number (holds_in e) (take before docs) shards some

pub total-few : (e : Tree) (docs : List Doc) (shards before : ℕ) → 0 < shards → sum (map (λ h. h.total) (by_shard (λ k. hits_of e (part_before docs shards k before)) shards)) ≤ length docs
total-few e docs shards before some = omega (arith, total-of-parts e docs shards before some, few-pass (holds_in e) (take before docs), few-take before docs)

pub hits-whole : (e : Tree) (docs : List Doc) (shards before : ℕ) → 0 < shards → merged_hits (by_shard (λ k. hits_of e (part_before docs shards k before)) shards) ≡ hits_of e (take before docs)
unfolding hits_of merged_hits
hits-whole e docs shards before some =
    let ks = range_with_len 0 shards in
    let id_of : Doc → ℕ = λ d. d.id in
    let ids : take 100 (sorted_by ltb (flat_map (λ h. h.ids) (by_shard (λ k. hits_of e (part_before docs shards k before)) shards))) ≡ (hits_of e (take before docs)).ids =
    ap (λ xs. take 100 (sorted_by ltb xs)) (flat-mapped (λ h. h.ids) (λ k. hits_of e (part_before docs shards k before)) ks)
    ∙ (cut-parts ltb ids_sort 100 (λ k. map id_of (filter (holds_in e) (part_of (take before docs) shards k))) ks
    ∙ ap (λ xs. take 100 xs) (same_sorted ltb ids_sort (flat_map (λ k. map id_of (filter (holds_in e) (part_of (take before docs) shards k))) ks) (map id_of (filter (holds_in e) (take before docs)))
    (parts-listed id_of (holds_in e) (take before docs) shards some))) in
    let total = total-of-parts e docs shards before some in
    λ i. record { ids = ids i; total = total i }

-- scores

pub score-is : (weight : Word → ℕ) (words : List Word) (d : Doc) → weighted_score (zip words (map weight words)) d ≡ sum_by (λ w. times_in d w * weight w) words
score-is weight [] d = refl
score-is weight (w ∷ ws) d =
    sum_by-cons (λ (p : Word × ℕ). times_in d p.0 * p.1) (w, weight w) (zip ws (map weight ws))
    ∙ (ap (λ n. times_in d w * weight w + n) (score-is weight ws d) ∙ sym (sum_by-cons (λ v. times_in d v * weight v) w ws))

pub scores-whole : (k : ℕ) (words : List Word) (docs : List Doc) (shards before : ℕ) → 0 < shards
    → merged_scores k (by_shard (λ n. weighted_top k (each_once words) (map (weight_of (take before docs)) (each_once words)) (part_before docs shards n before)) shards) ≡ top_of k words (take before docs)
unfolding merged_scores weighted_top top_of
scores-whole k words docs shards before some =
    let first = take before docs in
    let ws = each_once words in
    let gs = map (weight_of first) ws in
    let ks = range_with_len 0 shards in
    let pair : Doc → ℕ × ℕ = λ d. (d.id, weighted_score (zip ws gs) d) in
    let test : Doc → Bool = λ d. ltb 0 (weighted_score (zip ws gs) d) in
    let listed : List Doc → List (ℕ × ℕ) = λ ds. filter (λ p. ltb 0 p.1) (map pair ds) in
    ap (λ xs. take k (sorted_by ranks_before xs)) (flat-mapped (λ scores. scores) (λ n. weighted_top k ws gs (part_before docs shards n before)) ks)
    ∙ (cut-parts ranks_before ranks_sort k (λ n. listed (part_of first shards n)) ks
    ∙ (ap (λ xs. take k (sorted_by ranks_before xs)) (λ i. flat_map (λ n. filter-map (λ p. ltb 0 p.1) pair (part_of first shards n) i) ks)
    ∙ (ap (λ xs. take k xs) (same_sorted ranks_before ranks_sort (flat_map (λ n. map pair (filter test (part_of first shards n))) ks) (map pair (filter test first)) (parts-listed pair test first shards some))
    ∙ (ap (λ xs. take k (sorted_by ranks_before xs)) (sym (filter-map (λ p. ltb 0 p.1) pair first))
    ∙ (λ i. take k (sorted_by ranks_before (filter (λ p. ltb 0 p.1) (map (λ d. (d.id, score-is (weight_of first) ws d i)) first))))))))

-- counts

count-at : (words : List Word) (docs : List Doc) (i : ℕ) (v : Word) → i < length words → get_or (map (λ w. length (having w docs)) words) i 0 ≡ length (having (get_or words i v) docs)
count-at [] docs i v within = absurd (omega arith)
count-at (w ∷ ws) docs zero v within = refl
count-at (w ∷ ws) docs (suc i) v within = count-at ws docs i v (omega arith)

total-is : (words : List Word) (docs : List Doc) (shards before i : ℕ) (v : Word) → 0 < shards → i < length words
    → total_with i (by_shard (λ n. counts_of words (part_before docs shards n before)) shards) ≡ length (having (get_or words i v) (take before docs))
total-is words docs shards before i v some within =
    sum-mapped (λ part. get_or part.with i 0) (λ n. counts_of words (part_before docs shards n before)) (range_with_len 0 shards)
    ∙ (sum_of-same _ _ (range_with_len 0 shards) (λ n. count-at words (part_of (take before docs) shards n) i v within)
    ∙ parts-number (has_word (get_or words i v)) (take before docs) shards some)

pub total-with-few : (words : List Word) (docs : List Doc) (shards before i : ℕ) → 0 < shards → i < length words
    → total_with i (by_shard (λ n. counts_of words (part_before docs shards n before)) shards) ≤ length docs
total-with-few words docs shards before i some within =
    omega (arith, total-is words docs shards before i (get_or words 0 []) some within, few-pass (has_word (get_or words i (get_or words 0 []))) (take before docs), few-take before docs)

map-range : (f : ℕ → ℕ) (g : Word → ℕ) (a : ℕ) (words : List Word) → ((i : ℕ) → i < length words → f (a + i) ≡ g (get_or words i [])) → map f (range_with_len a (length words)) ≡ map g words
map-range f g a [] each = refl
map-range f g a (w ∷ ws) each =
    let first : f a ≡ g w = ap f (sym (add-zero a)) ∙ each 0 (omega arith) in
    let rest = map-range f g (a + 1) ws (λ i within. ap f (let e : a + 1 + i ≡ a + suc i = omega arith in e) ∙ each (suc i) (omega arith)) in
    λ k. first k ∷ rest k

pub weights-whole : (words : List Word) (docs : List Doc) (shards before : ℕ) → 0 < shards
    → weights_by (length (take before docs)) (length words) (by_shard (λ n. counts_of words (part_before docs shards n before)) shards) ≡ map (weight_of (take before docs)) words
weights-whole words docs shards before some =
    map-range (λ i. weight_by (length (take before docs)) (total_with i (by_shard (λ n. counts_of words (part_before docs shards n before)) shards))) (weight_of (take before docs)) 0 words
    (λ i within. ap (λ n. weight_by (length (take before docs)) (total_with n (by_shard (λ m. counts_of words (part_before docs shards m before)) shards))) (zero-add i)
    ∙ ap (λ n. weight_by (length (take before docs)) n) (total-is words docs shards before i [] some within))

-- words, each once

among-once : (w : Word) (words : List Word) → is_among w words ≡ false → is_among w (each_once words) ≡ false
among-once w [] none = refl
among-once w (v ∷ vs) none = by (is_among v vs) (pointwise eqb v w) refl (among-once w vs) none
  where
    by : (b c : Bool) → pointwise eqb v w ≡ c → (is_among w vs ≡ false → is_among w (each_once vs) ≡ false) → (c || is_among w vs) ≡ false → is_among w (cond b (each_once vs) (v ∷ each_once vs)) ≡ false
    by b true is rest e = absurd (true≢false e)
    by true false is rest e = rest e
    by false false is rest e = ap (λ c. c || is_among w (each_once vs)) is ∙ rest e

pub once-differ : (words : List Word) → DifferentWords (each_once words)
once-differ [] = tt
once-differ (w ∷ ws) = by (is_among w ws) refl (once-differ ws)
  where
    by : (b : Bool) → is_among w ws ≡ b → DifferentWords (each_once ws) → DifferentWords (cond b (each_once ws) (w ∷ each_once ws))
    by true is rest = rest
    by false is rest = (among-once w ws is, rest)

-- one part more

flat-push : {A B : Type 0} (h : B → List A) (xs : List B) (x : B) → flat_map h (xs ++ x ∷ []) ≡ flat_map h xs ++ h x
flat-push h [] x = append-nil (h x)
flat-push h (y ∷ ys) x = ap (λ zs. h y ++ zs) (flat-push h ys x) ∙ sym (append_assoc (h y) (flat_map h ys) (h x))

pub flat-more : {A B : Type 0} (h : B → List A) (parts : List B) (i : ℕ) (part : B) → i < length parts → part ≡ get_or parts i part → flat_map h (take i parts) ++ h part ≡ flat_map h (take (i + 1) parts)
flat-more {B = B} h parts i part within is =
    sym (ap (λ ps. flat_map h ps) (take_more parts i part within ∙ ap (λ (p : B). take i parts ++ p ∷ []) (sym is)) ∙ flat-push h (take i parts) part)

pub total-fits : (parts : List Hits) (i total : ℕ) (part : Hits) → i < length parts → part ≡ get_or parts i part → total ≡ sum (map (λ h. h.total) (take i parts)) → sum (map (λ h. h.total) parts) < 2 ^ 64 → total + part.total < 2 ^ 64
total-fits parts i total part within is so_far fits =
    let grown = sum_by_more_le (λ (h : Hits). h.total) parts i part within in
    let here = ap (λ h. h.total) is in
    let before = sum-map (λ (h : Hits). h.total) (take i parts) in
    let all = sum-map (λ (h : Hits). h.total) parts in
    omega arith

pub merged-of : (parts : List Hits) (listed : List ℕ) (total : ℕ) → listed ≡ take 100 (sorted_by ltb (flat_map (λ h. h.ids) parts))
    → total ≡ sum (map (λ h. h.total) parts) → ◌≡◌ {A = Hits} (record { ids = listed; total = total }) (merged_hits parts)
unfolding merged_hits
merged-of parts listed total are sums = λ k. record { ids = are k; total = sums k }

pub scores-of : (k i : ℕ) (parts : List (List (ℕ × ℕ))) (kept : List (ℕ × ℕ)) → length parts ≤ i → kept ≡ take k (sorted_by ranks_before (flat_map (λ scores. scores) (take i parts))) → kept ≡ merged_scores k parts
unfolding merged_scores
scores-of k i parts kept past are = are ∙ ap (λ ps. take k (sorted_by ranks_before (flat_map (λ scores. scores) ps))) (take_all i parts past)

pub total-with-fits : (parts : List Counts) (i j total bound : ℕ) (part : Counts) → j < length parts → part ≡ get_or parts j part → total ≡ total_with i (take j parts) → total_with i parts < bound → total + get_or part.with i 0 < bound
total-with-fits parts i j total bound part within is so_far fits =
    let f : Counts → ℕ = λ p. get_or p.with i 0 in
    let grown = sum_by_more_le f parts j part within in
    let here = ap f is in
    let before = sum-map f (take j parts) in
    let all = sum-map f parts in
    omega arith

pub by_shard-push : {A : Type 0} (given : ℕ → A) (i : ℕ) → by_shard given i ++ given i ∷ [] ≡ by_shard given (i + 1)
by_shard-push given i = sym (map-range_with_len_more given 0 i i (zero-add i))

all-mapped : {A : Type 0} (P : A → Type 0) (given : ℕ → A) (ks : List ℕ) → ((k : ℕ) → P (given k)) → AllByRecursion P (map given ks)
all-mapped P given [] each = tt
all-mapped P given (k ∷ ks) each = (each k, all-mapped P given ks each)

pub all-by-shard : {A : Type 0} (P : A → Type 0) (given : ℕ → A) (n : ℕ) → ((k : ℕ) → P (given k)) → All P (by_shard given n)
all-by-shard P given n each = all-places P (by_shard given n) (all-mapped P given (range_with_len 0 n) each)

pub length-take-min : (n : ℕ) (docs : List Doc) → length (take n docs) ≡ min (length docs) n
length-take-min zero docs = omega arith
length-take-min (suc n) [] = omega arith
length-take-min (suc n) (d ∷ ds) = omega (arith, length-take-min n ds)

pub weight-le : (docs : List Doc) (w : Word) → weight_of docs w ≤ length docs
weight-le docs w = by (eqb (length (having w docs)) 0)
  where
    by : (b : Bool) → cond b 0 (length docs / length (having w docs)) ≤ length docs
    by true = omega arith
    by false = div-le_self (length docs) (length (having w docs))

weights-low : (docs : List Doc) (bound : ℕ) (words : List Word) → length docs < bound → AllByRecursion (λ g. g < bound) (map (weight_of docs) words)
weights-low docs bound [] few = tt
weights-low docs bound (w ∷ ws) few = (omega (arith, weight-le docs w, few), weights-low docs bound ws few)

pub all-weights : (docs : List Doc) (before bound : ℕ) (words : List Word) → length docs < bound → All (λ g. g < bound) (map (weight_of (take before docs)) words)
all-weights docs before bound words few =
    all-places (λ g. g < bound) (map (weight_of (take before docs)) words) (weights-low (take before docs) bound words (omega (arith, few-take before docs, few)))

pub total-of : (e : Tree) (docs : List Doc) → (hits_of e docs).total ≡ length (holding e docs)
unfolding hits_of
total-of e docs = refl
