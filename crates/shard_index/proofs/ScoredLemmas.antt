-- Scores by places: those of a word summed with those before, and what they come to.
use Rattle.std.proofs.Common.{◌≡◌, ℕ, zero, suc, ◌+◌, ◌-◌, ◌*◌, ◌<◌, ◌≤◌, ◌^◌, List, [], ◌∷◌, ◌++◌, length, Bool, true, false, ◌||◌, cond, ltb, get_or, replicate, refl, sym, ap, ◌∙◌, subst, arith, take, drop, map, filter, zip, append_assoc, drop-cons, zero-add}
use Rattle.std.specs.List.{All, AllByRecursion}
use Rattle.std.proofs.lemmas.Bool.{le-ltb, lt-ltb, or_parts}
use Rattle.std.proofs.lemmas.List.{drop_all, length_push, take_all}
use Rattle.std.proofs.Math.Seq.{get_or-append_seam}
use Rattle.std.proofs.Common.{length-drop}
use Rattle.fan_base.specs.declared.doc.Doc.{Doc}
use Rattle.fan_base.specs.declared.word.Word.{Word}
use Rattle.query_grammar.specs.Truth.{is_among}
use Rattle.query_model.specs.Answers.{ranked, ranks_before, times_in}
use Rattle.query_model.specs.Parts.{weighted_score, weighted_top}
use Rattle.query_model.specs.Sorting.{sorted_by}
use Rattle.word_table.specs.Told.{repeated}
use Rattle.shard_index.specs.Places.{has_one, has_word, places_from, standing_from}
use Rattle.shard_index.specs.Scored.{AreScored, HasRoomAt, StandAt, scored_from}
use Rattle.shard_index.proofs.PlaceLemmas.{places-above, standing-from-above}
use Rattle.shard_index.proofs.ScoreLemmas.{scores-of-some}
use Rattle.shard_index.proofs.TotalLemmas.{all-places}
use Rattle.shard_index.proofs.WordLemmas.{none-count}

-- a first list that begins with x, summed with a second; `rest` sums what is behind x
abbrev pub summed_from : ℕ × ℕ → List (ℕ × ℕ) → (List (ℕ × ℕ) → List (ℕ × ℕ)) → List (ℕ × ℕ) → List (ℕ × ℕ)
summed_from x xs rest [] = x ∷ xs
summed_from x xs rest (y ∷ ys) =
    cond (ltb x.0 y.0) (x ∷ rest (y ∷ ys))
    (cond (ltb y.0 x.0) (y ∷ summed_from x xs rest ys) ((y.0, x.1 + y.1) ∷ rest ys))

abbrev pub summed : List (ℕ × ℕ) → List (ℕ × ℕ) → List (ℕ × ℕ)
summed [] ys = ys
summed (x ∷ xs) ys = summed_from x xs (λ zs. summed xs zs) ys

-- places, each with the weight as often as the number beside it says
abbrev pub weighed : ℕ → List ℕ → List ℕ → List (ℕ × ℕ)
weighed weight [] times = []
weighed weight (place ∷ places) [] = []
weighed weight (place ∷ places) (n ∷ times) = (place, n * weight) ∷ weighed weight places times

summed-first : (x y : ℕ × ℕ) (xs ys : List (ℕ × ℕ)) → x.0 < y.0 → summed (x ∷ xs) (y ∷ ys) ≡ x ∷ summed xs (y ∷ ys)
summed-first x y xs ys lt =
    ap (λ b. cond b (x ∷ summed xs (y ∷ ys)) (cond (ltb y.0 x.0) (y ∷ summed (x ∷ xs) ys) ((y.0, x.1 + y.1) ∷ summed xs ys))) (lt-ltb x.0 y.0 lt)

summed-second : (x y : ℕ × ℕ) (xs ys : List (ℕ × ℕ)) → y.0 < x.0 → summed (x ∷ xs) (y ∷ ys) ≡ y ∷ summed (x ∷ xs) ys
summed-second x y xs ys lt =
    ap (λ b. cond b (x ∷ summed xs (y ∷ ys)) (cond (ltb y.0 x.0) (y ∷ summed (x ∷ xs) ys) ((y.0, x.1 + y.1) ∷ summed xs ys))) (le-ltb x.0 y.0 (let h : y.0 ≤ x.0 = omega arith in h))
    ∙ ap (λ b. cond b (y ∷ summed (x ∷ xs) ys) ((y.0, x.1 + y.1) ∷ summed xs ys)) (lt-ltb y.0 x.0 lt)

summed-both : (x y : ℕ × ℕ) (xs ys : List (ℕ × ℕ)) → y.0 ≤ x.0 → x.0 ≤ y.0 → summed (x ∷ xs) (y ∷ ys) ≡ (y.0, x.1 + y.1) ∷ summed xs ys
summed-both x y xs ys below above =
    ap (λ b. cond b (x ∷ summed xs (y ∷ ys)) (cond (ltb y.0 x.0) (y ∷ summed (x ∷ xs) ys) ((y.0, x.1 + y.1) ∷ summed xs ys))) (le-ltb x.0 y.0 below)
    ∙ ap (λ b. cond b (y ∷ summed (x ∷ xs) ys) ((y.0, x.1 + y.1) ∷ summed xs ys)) (le-ltb y.0 x.0 above)

none-first : (xs : List (ℕ × ℕ)) → summed xs [] ≡ xs
none-first [] = refl
none-first (x ∷ xs) = refl

-- a place before all of the other list's
lone-first : (x : ℕ × ℕ) (xs ys : List (ℕ × ℕ)) → AllByRecursion (λ y. x.0 < y.0) ys → summed (x ∷ xs) ys ≡ x ∷ summed xs ys
lone-first x xs [] all = ap (λ zs. x ∷ zs) (sym (none-first xs))
lone-first x xs (y ∷ ys) all = summed-first x y xs ys all.0

lone-second : (y : ℕ × ℕ) (xs ys : List (ℕ × ℕ)) → AllByRecursion (λ x. y.0 < x.0) xs → summed xs (y ∷ ys) ≡ y ∷ summed xs ys
lone-second y [] ys all = refl
lone-second y (x ∷ xs) ys all = summed-second x y xs ys all.0

scored-above : (m place : ℕ) (test : Doc → Bool) (score : Doc → ℕ) (docs : List Doc) → m < place → AllByRecursion (λ s. m < s.0) (scored_from place test score docs)
scored-above m place test score [] low = tt
scored-above m place test score (d ∷ ds) low = by (test d) (scored-above m (place + 1) test score ds (omega arith))
  where
    rest : List (ℕ × ℕ)
    rest = scored_from (place + 1) test score ds

    by : (b : Bool) → AllByRecursion (λ s. m < s.0) rest → AllByRecursion (λ s. m < s.0) (cond b ((place, score d) ∷ rest) rest)
    by true more = (low, more)
    by false more = more

-- the scores of documents that pass one of two tests, summed
summed-scored : (place : ℕ) (p q : Doc → Bool) (s t : Doc → ℕ) (docs : List Doc) → ((d : Doc) → p d ≡ false → s d ≡ 0) → ((d : Doc) → q d ≡ false → t d ≡ 0)
    → summed (scored_from place p s docs) (scored_from place q t docs) ≡ scored_from place (λ d. p d || q d) (λ d. s d + t d) docs
summed-scored place p q s t [] no_p no_q = refl
summed-scored place p q s t (d ∷ ds) no_p no_q = by (p d) (q d) (no_p d) (no_q d) (summed-scored (place + 1) p q s t ds no_p no_q)
  where
    first : List (ℕ × ℕ)
    first = scored_from (place + 1) p s ds

    second : List (ℕ × ℕ)
    second = scored_from (place + 1) q t ds

    all : List (ℕ × ℕ)
    all = scored_from (place + 1) (λ e. p e || q e) (λ e. s e + t e) ds

    by : (b c : Bool) → (b ≡ false → s d ≡ 0) → (c ≡ false → t d ≡ 0) → summed first second ≡ all
        → summed (cond b ((place, s d) ∷ first) first) (cond c ((place, t d) ∷ second) second) ≡ cond (b || c) ((place, s d + t d) ∷ all) all
    by true true none_s none_t more = summed-both (place, s d) (place, t d) first second (omega arith) (omega arith) ∙ ap (λ xs. (place, s d + t d) ∷ xs) more
    by true false none_s none_t more =
        let same : s d ≡ s d + t d = omega (arith, none_t refl) in
        lone-first (place, s d) first second (scored-above place (place + 1) q t ds (omega arith)) ∙ (λ k. (place, same k) ∷ more k)
    by false true none_s none_t more =
        let same : t d ≡ s d + t d = omega (arith, none_s refl) in
        lone-second (place, t d) first second (scored-above place (place + 1) p s ds (omega arith)) ∙ (λ k. (place, same k) ∷ more k)
    by false false none_s none_t more = more

-- places with times tell how often a word stands in each document

cancelled : (m n p : ℕ) (xs ys : List ℕ) → AllByRecursion (λ x. p < x) xs → AllByRecursion (λ y. p < y) ys → replicate m p ++ xs ≡ replicate n p ++ ys → (m ≡ n) × (xs ≡ ys)
cancelled zero zero p xs ys above higher is = (refl, is)
cancelled zero (suc n) p [] ys above higher is = absurd (cc)
cancelled zero (suc n) p (x ∷ xs) ys above higher is = let same : x ≡ p = cc in absurd (omega (arith, same, above.0))
cancelled (suc m) zero p xs [] above higher is = absurd (cc)
cancelled (suc m) zero p xs (y ∷ ys) above higher is = let same : y ≡ p = cc in absurd (omega (arith, same, higher.0))
cancelled (suc m) (suc n) p xs ys above higher is =
    let rest = cancelled m n p xs ys above higher (let e : replicate m p ++ xs ≡ replicate n p ++ ys = cc in e) in
    (ap suc rest.0, rest.1)

above-repeated : (p : ℕ) (places times : List ℕ) → AllByRecursion (λ x. p < x) places → AllByRecursion (λ x. p < x) (repeated places times)
above-repeated p [] times above = tt
above-repeated p (x ∷ xs) [] above = tt
above-repeated p (x ∷ xs) (n ∷ times) above = again n (above-repeated p xs times above.1)
  where
    again : (n : ℕ) → AllByRecursion (λ y. p < y) (repeated xs times) → AllByRecursion (λ y. p < y) (replicate n x ++ repeated xs times)
    again zero more = more
    again (suc n) more = (above.0, again n more)

told-from : (weight place : ℕ) (word : Word) (places times : List ℕ) (docs : List Doc) → places ≡ places_from place (has_word word) docs → length times ≡ length places
    → repeated places times ≡ standing_from place word docs → weighed weight places times ≡ scored_from place (has_word word) (λ d. times_in d word * weight) docs
told-from weight place word [] times [] once many are = refl
told-from weight place word (p ∷ places) times [] once many are = absurd (cc)
told-from weight place word places times (d ∷ ds) once many are =
    by (is_among word d.words) (none-count word d.words) (λ ps ts o m a. told-from weight (place + 1) word ps ts ds o m a) places times once many are
  where
    rest : List ℕ
    rest = places_from (place + 1) (has_word word) ds

    scored : List (ℕ × ℕ)
    scored = scored_from (place + 1) (has_word word) (λ e. times_in e word * weight) ds

    by : (b : Bool) → (b ≡ false → times_in d word ≡ 0)
        → ((ps ts : List ℕ) → ps ≡ rest → length ts ≡ length ps → repeated ps ts ≡ standing_from (place + 1) word ds → weighed weight ps ts ≡ scored)
        → (ps ts : List ℕ) → ps ≡ cond b (place ∷ rest) rest → length ts ≡ length ps
        → repeated ps ts ≡ replicate (times_in d word) place ++ standing_from (place + 1) word ds
        → weighed weight ps ts ≡ cond b ((place, times_in d word * weight) ∷ scored) scored
    by true none more [] ts once many are = absurd (cc)
    by true none more (p ∷ ps) [] once many are = absurd (omega (arith, many))
    by true none more (p ∷ ps) (n ∷ ts) once many are =
        let here : p ≡ place = cc in
        let behind : ps ≡ rest = cc in
        let above : AllByRecursion (λ x. place < x) ps = subst (λ (xs : List ℕ). AllByRecursion (λ x. place < x) xs) (sym behind) (places-above place (place + 1) (has_word word) ds (omega arith)) in
        let both = cancelled n (times_in d word) place (repeated ps ts) (standing_from (place + 1) word ds) (above-repeated place ps ts above)
        (higher (standing_from (place + 1) word ds) (standing-from-above (place + 1) (place + 1) word ds (omega arith)))
        (ap (λ x. replicate n x ++ repeated ps ts) (sym here) ∙ are) in
        (λ k. (here k, both.0 k * weight) ∷ more ps ts behind (omega (arith, many)) both.1 k)
      where
        higher : (xs : List ℕ) → AllByRecursion (λ x. place + 1 ≤ x) xs → AllByRecursion (λ x. place < x) xs
        higher [] h = tt
        higher (x ∷ xs) h = (omega (arith, h.0), higher xs h.1)
    by false none more ps ts once many are =
        more ps ts once many (are ∙ ap (λ n. replicate n place ++ standing_from (place + 1) word ds) (none refl))

told-scored : (weight : ℕ) (word : Word) (places times : List ℕ) (docs : List Doc) → StandAt places times word docs → weighed weight places times ≡ scored_from 0 (has_word word) (λ d. times_in d word * weight) docs
told-scored weight word places times docs stand = told-from weight 0 word places times docs stand.once stand.many stand.are

no-times : (weight : ℕ) (word : Word) (d : Doc) → has_word word d ≡ false → times_in d word * weight ≡ 0
no-times weight word d none = ap (λ n. n * weight) (none-count word d.words none) ∙ nothing weight
  where
    nothing : (n : ℕ) → 0 * n ≡ 0
    nothing n = omega arith

-- one word more
pub summed-is : (weight : ℕ) (word : Word) (scored more : List (ℕ × ℕ)) (places times : List ℕ) (test : Doc → Bool) (score : Doc → ℕ) (docs : List Doc)
    → more ≡ summed scored (weighed weight places times) → AreScored scored test score docs → StandAt places times word docs
    → AreScored more (λ d. test d || has_word word d) (λ d. score d + times_in d word * weight) docs
summed-is weight word scored more places times test score docs is before stand = record {
  are = is ∙ ((λ k. summed (before.are k) (told-scored weight word places times docs stand k))
      ∙ summed-scored 0 test (has_word word) score (λ d. times_in d word * weight) docs before.others (no-times weight word));
  others = λ d none. let apart = or_parts (test d) (has_word word d) none in omega (arith, before.others d apart.0, no-times weight word d apart.1);
}

-- the sums fit

scored-fit : (n place : ℕ) (test : Doc → Bool) (score : Doc → ℕ) (docs : List Doc) → AllByRecursion (λ d. score d < n) docs → AllByRecursion (λ s. s.1 < n) (scored_from place test score docs)
scored-fit n place test score [] room = tt
scored-fit n place test score (d ∷ ds) room = by (test d) (scored-fit n (place + 1) test score ds room.1)
  where
    rest : List (ℕ × ℕ)
    rest = scored_from (place + 1) test score ds

    by : (b : Bool) → AllByRecursion (λ s. s.1 < n) rest → AllByRecursion (λ s. s.1 < n) (cond b ((place, score d) ∷ rest) rest)
    by true more = (room.0, more)
    by false more = more

pub sums-fit : (scored : List (ℕ × ℕ)) (places times : List ℕ) (weight : ℕ) → HasRoomAt scored places times weight → AllByRecursion (λ s. s.1 < 2 ^ 64) (summed scored (weighed weight places times))
sums-fit scored places times weight h =
    subst (λ (ss : List (ℕ × ℕ)). AllByRecursion (λ s. s.1 < 2 ^ 64) ss)
    (sym ((summed-is weight h.word scored (summed scored (weighed weight places times)) places times h.test h.score h.docs refl h.scored_are h.stand).are))
    (scored-fit (2 ^ 64) 0 (λ d. h.test d || has_word h.word d) (λ d. h.score d + times_in d h.word * weight) h.docs h.room)

weighed-fit : (n weight : ℕ) (word : Word) (score : Doc → ℕ) (docs : List Doc) → AllByRecursion (λ d. score d + times_in d word * weight < n) docs → AllByRecursion (λ d. times_in d word * weight < n) docs
weighed-fit n weight word score [] room = tt
weighed-fit n weight word score (d ∷ ds) room = (omega (arith, room.0), weighed-fit n weight word score ds room.1)

weighed-at : (n weight : ℕ) (places times : List ℕ) (j : ℕ) → length times ≡ length places → j < length places → AllByRecursion (λ s. s.1 < n) (weighed weight places times) → get_or times j 0 * weight < n
weighed-at n weight [] times j many within fit = absurd (omega (arith, within))
weighed-at n weight (p ∷ ps) [] j many within fit = absurd (omega (arith, many))
weighed-at n weight (p ∷ ps) (t ∷ ts) zero many within fit = fit.0
weighed-at n weight (p ∷ ps) (t ∷ ts) (suc j) many within fit = weighed-at n weight ps ts j (omega (arith, many)) (omega (arith, within)) fit.1

pub times-fit : (scored : List (ℕ × ℕ)) (places times : List ℕ) (weight j : ℕ) → HasRoomAt scored places times weight → j < length places → get_or times j 0 * weight < 2 ^ 64
times-fit scored places times weight j h within =
    weighed-at (2 ^ 64) weight places times j h.stand.many within
    (subst (λ (ss : List (ℕ × ℕ)). AllByRecursion (λ s. s.1 < 2 ^ 64) ss) (sym (told-scored weight h.word places times h.docs h.stand))
    (scored-fit (2 ^ 64) 0 (has_word h.word) (λ d. times_in d h.word * weight) h.docs (weighed-fit (2 ^ 64) weight h.word h.score h.docs h.room)))

-- what is summed so far, and the sums of what is left

from_here : (xs : List (ℕ × ℕ)) (i : ℕ) → i < length xs → drop i xs ≡ get_or xs i (0, 0) ∷ drop (i + 1) xs
from_here xs i within = drop-cons xs i (0, 0) within ∙ ap (λ n. get_or xs i (0, 0) ∷ drop n xs) (let e : suc i ≡ i + 1 = omega arith in e)

weighed-here : (weight : ℕ) (ps ts : List ℕ) (j : ℕ) → length ts ≡ length ps → j < length ps
    → weighed weight (drop j ps) (drop j ts) ≡ (get_or ps j 0, get_or ts j 0 * weight) ∷ weighed weight (drop (j + 1) ps) (drop (j + 1) ts)
weighed-here weight [] ts j many within = absurd (omega (arith, within))
weighed-here weight (p ∷ ps) [] j many within = absurd (omega (arith, many))
weighed-here weight (p ∷ ps) (t ∷ ts) zero many within = refl
weighed-here weight (p ∷ ps) (t ∷ ts) (suc j) many within =
    weighed-here weight ps ts j (omega (arith, many)) (omega (arith, within))
    ∙ ap (λ n. (get_or ps j 0, get_or ts j 0 * weight) ∷ weighed weight (drop n (p ∷ ps)) (drop n (t ∷ ts))) (let e : suc (j + 1) ≡ suc j + 1 = omega arith in e)

all-behind : (n : ℕ) (xs ys : List (ℕ × ℕ)) → AllByRecursion (λ s. s.1 < n) (xs ++ ys) → AllByRecursion (λ s. s.1 < n) ys
all-behind n [] ys h = h
all-behind n (x ∷ xs) ys h = all-behind n xs ys h.1

module _ (xs : List (ℕ × ℕ)) (ps ts : List ℕ) (weight : ℕ) (kept whole : List (ℕ × ℕ)) (i j : ℕ) (many : length ts ≡ length ps) (within : j < length ps)
    (so_far : kept ++ summed (drop i xs) (weighed weight (drop j ps) (drop j ts)) ≡ whole) where
  abbrev pub first : ℕ × ℕ
  first = get_or xs i (0, 0)

  abbrev pub second : ℕ × ℕ
  second = (get_or ps j 0, get_or ts j 0 * weight)

  abbrev pub behind : List (ℕ × ℕ)
  behind = weighed weight (drop (j + 1) ps) (drop (j + 1) ts)

  both : i < length xs → summed (drop i xs) (weighed weight (drop j ps) (drop j ts)) ≡ summed (first ∷ drop (i + 1) xs) (second ∷ behind)
  both some = λ k. summed (from_here xs i some k) (weighed-here weight ps ts j many within k)

  sum-here : i < length xs → first.0 ≡ get_or ps j 0 → summed (drop i xs) (weighed weight (drop j ps) (drop j ts)) ≡ (get_or ps j 0, first.1 + get_or ts j 0 * weight) ∷ summed (drop (i + 1) xs) behind
  sum-here some same = both some ∙ summed-both first second (drop (i + 1) xs) behind (omega (arith, same)) (omega (arith, same))

  pub sum-fits : (n : ℕ) → AllByRecursion (λ s. s.1 < n) whole → i < length xs → first.0 ≡ get_or ps j 0 → first.1 + get_or ts j 0 * weight < n
  sum-fits n fit some same =
      (subst (λ (ss : List (ℕ × ℕ)). AllByRecursion (λ s. s.1 < n) ss) (sum-here some same)
      (all-behind n kept (summed (drop i xs) (weighed weight (drop j ps) (drop j ts))) (subst (λ (ss : List (ℕ × ℕ)). AllByRecursion (λ s. s.1 < n) ss) (sym so_far) fit))).0

-- the end of the loop, and what is left of the first list
pub summed-end : (xs : List (ℕ × ℕ)) (ps ts : List ℕ) (weight : ℕ) (kept more whole : List (ℕ × ℕ)) (i j : ℕ) → length ps ≤ j
    → kept ++ summed (drop i xs) (weighed weight (drop j ps) (drop j ts)) ≡ whole → more ≡ kept ++ take (length xs - i) (drop i xs) → more ≡ whole
summed-end xs ps ts weight kept more whole i j past so_far is =
    let long = length-drop i xs in
    is ∙ (ap (λ zs. kept ++ zs) (take_all (length xs - i) (drop i xs) (omega arith) ∙ (sym (none-first (drop i xs))
    ∙ ap (λ zs. summed (drop i xs) (weighed weight zs (drop j ts))) (sym (drop_all j ps past)))) ∙ so_far)

-- what the scores come to

-- a score with the id of its place
abbrev pub with_id : List ℕ → ℕ × ℕ → ℕ × ℕ
with_id ids score = (get_or ids score.0 0, score.1)

abbrev pub with_ids : List ℕ → List (ℕ × ℕ) → List (ℕ × ℕ)
with_ids ids scored = map (with_id ids) scored

ids-from : (score : Doc → ℕ) (before : List ℕ) (place : ℕ) (test : Doc → Bool) (docs : List Doc) → place ≡ length before
    → with_ids (before ++ map (λ d. d.id) docs) (scored_from place test score docs) ≡ map (λ d. (d.id, score d)) (filter test docs)
ids-from score before place test [] is = refl
ids-from score before place test (d ∷ ds) is =
    by (test d) (ap (λ xs. with_ids xs (scored_from (place + 1) test score ds)) longer ∙ ids-from score (before ++ d.id ∷ []) (place + 1) test ds many)
  where
    all : List ℕ
    all = before ++ d.id ∷ map (λ e. e.id) ds

    rest : List (ℕ × ℕ)
    rest = scored_from (place + 1) test score ds

    longer : all ≡ (before ++ d.id ∷ []) ++ map (λ e. e.id) ds
    longer = sym (append_assoc before (d.id ∷ []) (map (λ e. e.id) ds))

    many : place + 1 ≡ length (before ++ d.id ∷ [])
    many = ap (λ n. n + 1) is ∙ sym (length_push before d.id)

    here : get_or all place 0 ≡ d.id
    here = ap (λ n. get_or all n 0) is ∙ get_or-append_seam before d.id (map (λ e. e.id) ds) 0

    by : (b : Bool) → with_ids all rest ≡ map (λ e. (e.id, score e)) (filter test ds)
        → with_ids all (cond b ((place, score d) ∷ rest) rest) ≡ map (λ e. (e.id, score e)) (cond b (d ∷ filter test ds) (filter test ds))
    by true more = λ k. (here k, score d) ∷ more k
    by false more = more

pub top-of-some : (k : ℕ) (docs : List Doc) (words : List Word) (weights ids : List ℕ) (scored : List (ℕ × ℕ)) → ids ≡ map (λ d. d.id) docs → AreScored scored (has_one words) (weighted_score (zip words weights)) docs
    → take k (ranked (with_ids ids scored)) ≡ weighted_top k words weights docs
unfolding weighted_top
top-of-some k docs words weights ids scored are some =
    (λ i. take k (ranked (with_ids (are i) (some.are i))))
    ∙ (ap (λ ps. take k (ranked ps)) (ids-from (weighted_score (zip words weights)) [] 0 (has_one words) docs refl)
    ∙ ap (λ ps. take k (sorted_by ranks_before ps)) (scores-of-some words weights (has_one words) docs (λ d none. none)))

scored-below : (place : ℕ) (test : Doc → Bool) (score : Doc → ℕ) (docs : List Doc) → AllByRecursion (λ s. s.0 < place + length docs) (scored_from place test score docs)
scored-below place test score [] = tt
scored-below place test score (d ∷ ds) = by (test d) (wider (scored_from (place + 1) test score ds) (scored-below (place + 1) test score ds))
  where
    wider : (xs : List (ℕ × ℕ)) → AllByRecursion (λ s. s.0 < place + 1 + length ds) xs → AllByRecursion (λ s. s.0 < place + suc (length ds)) xs
    wider [] h = tt
    wider (x ∷ xs) h = (omega (arith, h.0), wider xs h.1)

    by : (b : Bool) → AllByRecursion (λ s. s.0 < place + suc (length ds)) (scored_from (place + 1) test score ds)
        → AllByRecursion (λ s. s.0 < place + suc (length ds)) (cond b ((place, score d) ∷ scored_from (place + 1) test score ds) (scored_from (place + 1) test score ds))
    by true more = (omega arith, more)
    by false more = more

pub scored-within : (test : Doc → Bool) (score : Doc → ℕ) (docs : List Doc) (scored : List (ℕ × ℕ)) (n : ℕ) → AreScored scored test score docs → n ≡ length docs → All (λ s. s.0 < n) scored
scored-within test score docs scored n are many =
    subst (λ (ss : List (ℕ × ℕ)). All (λ s. s.0 < n) ss) (sym are.are) (all-places (λ s. s.0 < n) (scored_from 0 test score docs)
    (subst (λ (m : ℕ). AllByRecursion (λ (s : ℕ × ℕ). s.0 < m) (scored_from 0 test score docs)) (zero-add (length docs) ∙ sym many) (scored-below 0 test score docs)))

-- no words, and one word more

none-scored : (place : ℕ) (score : Doc → ℕ) (docs : List Doc) → scored_from place (λ d. false) score docs ≡ []
none-scored place score [] = refl
none-scored place score (d ∷ ds) = none-scored (place + 1) score ds

pub no-words : (scored : List (ℕ × ℕ)) (words : List Word) (weights : List ℕ) (docs : List Doc) → scored ≡ [] → AreScored scored (has_one (take 0 words)) (weighted_score (zip (take 0 words) (take 0 weights))) docs
no-words scored words weights docs is = record { are = is ∙ sym (none-scored 0 (weighted_score (zip (take 0 words) (take 0 weights))) docs); others = λ d none. refl }

pub same-scored : (scored : List (ℕ × ℕ)) (p q : Doc → Bool) (s t : Doc → ℕ) (docs : List Doc) → ((d : Doc) → p d ≡ q d) → ((d : Doc) → s d ≡ t d) → AreScored scored p s docs → AreScored scored q t docs
same-scored scored p q s t docs tests scores h = record {
  are = h.are ∙ (λ k. scored_from 0 (λ d. tests d k) (λ d. scores d k) docs);
  others = λ d none. sym (scores d) ∙ h.others d (tests d ∙ none);
}
