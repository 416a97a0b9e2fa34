-- Places of documents: bounds, fronts, one document more, and what stands at them.
use Rattle.std.proofs.Common.{◌≡◌, ℕ, zero, suc, ◌+◌, ◌-◌, ◌<◌, ◌≤◌, List, [], ◌∷◌, ◌++◌, length, Bool, true, false, cond, eqb, get_or, replicate, Some, refl, sym, ap, ◌∙◌, arith, take, map, filter, zero-add, add-zero, append_assoc, append-nil}
use Rattle.std.specs.List.{AllByRecursion, fold, slice_get}
use Rattle.std.specs.Option.{option_eq}
use Rattle.std.proofs.lemmas.Bool.Decides.{nat_tests}
use Rattle.std.proofs.lemmas.Bool.{le-ltb, lt-ltb}
use Rattle.std.proofs.lemmas.List.{length_push}
use Rattle.std.proofs.Math.Seq.{get_or-append_seam}
use Rattle.fan_base.specs.declared.doc.Doc.{Doc}
use Rattle.fan_base.specs.declared.word.Word.{Word}
use Rattle.query_model.specs.Answers.{times_in}
use Rattle.query_model.proofs.ListLaws.{all-append}
use Rattle.word_table.specs.Told.{distinct, is_last, with_place}
use Rattle.shard_index.specs.Places.{front_of, has_word, places_from, places_where, standing_from, standing_of}
use Rattle.query_grammar.specs.Truth.{is_among}
use Rattle.shard_index.proofs.WordLemmas.{none-count, some-count}

pub places-above : (m place : ℕ) (test : Doc → Bool) (docs : List Doc) → m < place → AllByRecursion (λ x. m < x) (places_from place test docs)
places-above m place test [] low = tt
places-above m place test (d ∷ ds) low = by (test d) (places-above m (place + 1) test ds (omega arith))
  where
    by : (b : Bool) → AllByRecursion (λ x. m < x) (places_from (place + 1) test ds) → AllByRecursion (λ x. m < x) (cond b (place ∷ places_from (place + 1) test ds) (places_from (place + 1) test ds))
    by true more = (low, more)
    by false more = more

pub places-below : (place : ℕ) (test : Doc → Bool) (docs : List Doc) → AllByRecursion (λ x. x < place + length docs) (places_from place test docs)
places-below place test [] = tt
places-below place test (d ∷ ds) = by (test d) (wider (places_from (place + 1) test ds) (places-below (place + 1) test ds))
  where
    wider : (xs : List ℕ) → AllByRecursion (λ x. x < place + 1 + length ds) xs → AllByRecursion (λ x. x < place + suc (length ds)) xs
    wider [] h = tt
    wider (x ∷ xs) h = (omega (arith, h.0), wider xs h.1)

    by : (b : Bool) → AllByRecursion (λ x. x < place + suc (length ds)) (places_from (place + 1) test ds)
        → AllByRecursion (λ x. x < place + suc (length ds)) (cond b (place ∷ places_from (place + 1) test ds) (places_from (place + 1) test ds))
    by true more = (omega arith, more)
    by false more = more

all-replicate : {A : Type 0} (P : A → Type 0) (n : ℕ) (x : A) → P x → AllByRecursion P (replicate n x)
all-replicate P zero x h = tt
all-replicate P (suc n) x h = (h, all-replicate P n x h)

-- the front of a list of places

-- the first places up to one that isn't below the front
pub front-is : (front end : ℕ) (xs : List ℕ) → end ≤ length xs → ((k : ℕ) → k < end → get_or xs k 0 < front) → (end < length xs → front ≤ get_or xs end 0) → take end xs ≡ front_of front xs
front-is front zero [] within below at = refl
front-is front (suc e) [] within below at = absurd (omega arith)
front-is front zero (x ∷ xs) within below at = sym (ap (λ b. cond b (x ∷ front_of front xs) []) (le-ltb x front (at (omega arith))))
front-is front (suc e) (x ∷ xs) within below at =
    ap (λ ys. x ∷ ys) (front-is front e xs (omega arith) (λ k h. below (suc k) (omega arith)) (λ h. at (omega arith)))
    ∙ sym (ap (λ b. cond b (x ∷ front_of front xs) []) (lt-ltb x front (below 0 (omega arith))))

-- no place is in front
none-front : (front : ℕ) (xs : List ℕ) → AllByRecursion (λ x. front ≤ x) xs → front_of front xs ≡ []
none-front front [] h = refl
none-front front (x ∷ xs) h = ap (λ b. cond b (x ∷ front_of front xs) []) (le-ltb x front h.0)

places-from-above : (m place : ℕ) (test : Doc → Bool) (docs : List Doc) → m ≤ place → AllByRecursion (λ x. m ≤ x) (places_from place test docs)
places-from-above m place test [] low = tt
places-from-above m place test (d ∷ ds) low = by (test d) (places-from-above m (place + 1) test ds (omega arith))
  where
    by : (b : Bool) → AllByRecursion (λ x. m ≤ x) (places_from (place + 1) test ds) → AllByRecursion (λ x. m ≤ x) (cond b (place ∷ places_from (place + 1) test ds) (places_from (place + 1) test ds))
    by true more = (low, more)
    by false more = more

pub standing-from-above : (m place : ℕ) (word : Word) (docs : List Doc) → m ≤ place → AllByRecursion (λ x. m ≤ x) (standing_from place word docs)
standing-from-above m place word [] low = tt
standing-from-above m place word (d ∷ ds) low =
    all-append (λ x. m ≤ x) (replicate (times_in d word) place) (standing_from (place + 1) word ds)
    (all-replicate (λ x. m ≤ x) (times_in d word) place low) (standing-from-above m (place + 1) word ds (omega arith))

-- the places below a front are those of the first documents
places-front : (place n front : ℕ) (test : Doc → Bool) (docs : List Doc) → front ≡ place + n → front_of front (places_from place test docs) ≡ places_from place test (take n docs)
places-front place zero front test docs is = none-front front (places_from place test docs) (places-from-above front place test docs (omega arith))
places-front place (suc n) front test [] is = refl
places-front place (suc n) front test (d ∷ ds) is = by (test d) (places-front (place + 1) n front test ds (omega arith))
  where
    by : (b : Bool) → front_of front (places_from (place + 1) test ds) ≡ places_from (place + 1) test (take n ds)
        → front_of front (cond b (place ∷ places_from (place + 1) test ds) (places_from (place + 1) test ds)) ≡ cond b (place ∷ places_from (place + 1) test (take n ds)) (places_from (place + 1) test (take n ds))
    by true more = ap (λ b. cond b (place ∷ front_of front (places_from (place + 1) test ds)) []) (lt-ltb place front (omega arith)) ∙ ap (λ xs. place ∷ xs) more
    by false more = more

pub below-where : (front : ℕ) (test : Doc → Bool) (docs : List Doc) → front_of front (places_where test docs) ≡ places_where test (take front docs)
below-where front test docs = places-front 0 front front test docs (sym (zero-add front))

pub front-replicate : (front place n : ℕ) (xs : List ℕ) → place < front → front_of front (replicate n place ++ xs) ≡ replicate n place ++ front_of front xs
front-replicate front place zero xs low = refl
front-replicate front place (suc n) xs low =
    ap (λ b. cond b (place ∷ front_of front (replicate n place ++ xs)) []) (lt-ltb place front low) ∙ ap (λ ys. place ∷ ys) (front-replicate front place n xs low)

standing-front : (place n front : ℕ) (word : Word) (docs : List Doc) → front ≡ place + n → front_of front (standing_from place word docs) ≡ standing_from place word (take n docs)
standing-front place zero front word docs is = none-front front (standing_from place word docs) (standing-from-above front place word docs (omega arith))
standing-front place (suc n) front word [] is = refl
standing-front place (suc n) front word (d ∷ ds) is =
    front-replicate front place (times_in d word) (standing_from (place + 1) word ds) (omega arith)
    ∙ ap (λ xs. replicate (times_in d word) place ++ xs) (standing-front (place + 1) n front word ds (omega arith))

pub below-standing : (front : ℕ) (word : Word) (docs : List Doc) → front_of front (standing_of word docs) ≡ standing_of word (take front docs)
below-standing front word docs = standing-front 0 front front word docs (sym (zero-add front))

-- one document more

shifted : (place k : ℕ) → place + 1 + k ≡ place + suc k
shifted place k = omega arith

places_from-push : (place : ℕ) (test : Doc → Bool) (docs : List Doc) (doc : Doc) → places_from place test (docs ++ doc ∷ []) ≡ cond (test doc) (places_from place test docs ++ (place + length docs) ∷ []) (places_from place test docs)
places_from-push place test [] doc = ap (λ n. cond (test doc) (n ∷ []) []) (sym (add-zero place))
places_from-push place test (d ∷ ds) doc = by (test d) (test doc) (places_from-push (place + 1) test ds doc)
  where
    rest : List ℕ
    rest = places_from (place + 1) test ds

    end : place + 1 + length ds ≡ place + suc (length ds)
    end = shifted place (length ds)

    by : (b c : Bool) → places_from (place + 1) test (ds ++ doc ∷ []) ≡ cond c (rest ++ (place + 1 + length ds) ∷ []) rest
        → cond b (place ∷ places_from (place + 1) test (ds ++ doc ∷ [])) (places_from (place + 1) test (ds ++ doc ∷ [])) ≡ cond c (cond b (place ∷ rest) rest ++ (place + suc (length ds)) ∷ []) (cond b (place ∷ rest) rest)
    by true true more = ap (λ xs. place ∷ xs) more ∙ ap (λ n. place ∷ (rest ++ n ∷ [])) end
    by true false more = ap (λ xs. place ∷ xs) more
    by false true more = more ∙ ap (λ n. rest ++ n ∷ []) end
    by false false more = more

pub places-push : (test : Doc → Bool) (docs : List Doc) (doc : Doc) → places_where test (docs ++ doc ∷ []) ≡ cond (test doc) (places_where test docs ++ length docs ∷ []) (places_where test docs)
places-push test docs doc = places_from-push 0 test docs doc ∙ ap (λ n. cond (test doc) (places_where test docs ++ n ∷ []) (places_where test docs)) (zero-add (length docs))

-- how many pass, and what stands at their places

pub length-places : (place : ℕ) (test : Doc → Bool) (docs : List Doc) → length (places_from place test docs) ≡ length (filter test docs)
length-places place test [] = refl
length-places place test (d ∷ ds) = by (test d) (length-places (place + 1) test ds)
  where
    by : (b : Bool) → length (places_from (place + 1) test ds) ≡ length (filter test ds)
        → length (cond b (place ∷ places_from (place + 1) test ds) (places_from (place + 1) test ds)) ≡ length (cond b (d ∷ filter test ds) (filter test ds))
    by true more = ap suc more
    by false more = more

ids-from : (before : List ℕ) (place : ℕ) (test : Doc → Bool) (docs : List Doc) → place ≡ length before
    → map (λ p. get_or (before ++ map (λ d. d.id) docs) p 0) (places_from place test docs) ≡ map (λ d. d.id) (filter test docs)
ids-from before place test [] is = refl
ids-from before place test (d ∷ ds) is =
    by (test d) (ap (λ xs. map (λ p. get_or xs p 0) (places_from (place + 1) test ds)) longer ∙ ids-from (before ++ d.id ∷ []) (place + 1) test ds many)
  where
    all : List ℕ
    all = before ++ d.id ∷ map (λ d. d.id) ds

    longer : all ≡ (before ++ d.id ∷ []) ++ map (λ d. d.id) ds
    longer = sym (append_assoc before (d.id ∷ []) (map (λ d. d.id) ds))

    many : place + 1 ≡ length (before ++ d.id ∷ [])
    many = ap (λ n. n + 1) is ∙ sym (length_push before d.id)

    here : get_or all place 0 ≡ d.id
    here = ap (λ n. get_or all n 0) is ∙ get_or-append_seam before d.id (map (λ d. d.id) ds) 0

    by : (b : Bool) → map (λ p. get_or all p 0) (places_from (place + 1) test ds) ≡ map (λ d. d.id) (filter test ds)
        → map (λ p. get_or all p 0) (cond b (place ∷ places_from (place + 1) test ds) (places_from (place + 1) test ds)) ≡ map (λ d. d.id) (cond b (d ∷ filter test ds) (filter test ds))
    by true more = λ i. here i ∷ more i
    by false more = more

-- the ids at the places of those that pass
pub ids-at : (test : Doc → Bool) (docs : List Doc) → map (λ p. get_or (map (λ d. d.id) docs) p 0) (places_where test docs) ≡ map (λ d. d.id) (filter test docs)
ids-at test docs = ids-from [] 0 test docs refl

-- a place above all others is not the last of them

pub neq-below : (x m : ℕ) → x < m → eqb x m ≡ false
neq-below x m h = grind (arith, nat_tests)

neq-got : (ps : List ℕ) (k m : ℕ) → AllByRecursion (λ x. x < m) ps → option_eq eqb (slice_get ps k) (Some m) ≡ false
neq-got [] k m all = refl
neq-got (p ∷ ps) zero m all = neq-below p m all.0
neq-got (p ∷ ps) (suc k) m all = neq-got ps k m all.1

pub not_last : (ps : List ℕ) (m : ℕ) → AllByRecursion (λ x. x < m) ps → is_last ps m ≡ false
not_last ps m all = neq-got ps (length ps - 1) m all

got_last : (ps : List ℕ) (p : ℕ) → option_eq eqb (slice_get (ps ++ p ∷ []) (length ps)) (Some p) ≡ true
got_last [] p = grind (arith, nat_tests)
got_last (x ∷ xs) p = got_last xs p

pub is_last-push : (ps : List ℕ) (p : ℕ) → is_last (ps ++ p ∷ []) p ≡ true
is_last-push ps p =
    let at : length (ps ++ p ∷ []) - 1 ≡ length ps = omega (arith, length_push ps p) in
    ap (λ k. option_eq eqb (slice_get (ps ++ p ∷ []) k) (Some p)) at ∙ got_last ps p

-- each place but once

with-new : (acc : List ℕ) (place : ℕ) → AllByRecursion (λ x. x < place) acc → with_place acc place ≡ acc ++ place ∷ []
with-new acc place all = ap (λ (b : Bool). cond b acc (acc ++ place ∷ [])) (not_last acc place all)

with-last : (acc : List ℕ) (place : ℕ) → with_place (acc ++ place ∷ []) place ≡ acc ++ place ∷ []
with-last acc place = ap (λ (b : Bool). cond b (acc ++ place ∷ []) ((acc ++ place ∷ []) ++ place ∷ [])) (is_last-push acc place)

again : (n place : ℕ) (acc rest : List ℕ) → fold with_place (acc ++ place ∷ []) (replicate n place ++ rest) ≡ fold with_place (acc ++ place ∷ []) rest
again zero place acc rest = refl
again (suc n) place acc rest = ap (λ (xs : List ℕ). fold with_place xs (replicate n place ++ rest)) (with-last acc place) ∙ again n place acc rest

wider-push : (place : ℕ) (acc : List ℕ) → AllByRecursion (λ x. x < place) acc → AllByRecursion (λ x. x < place + 1) (acc ++ place ∷ [])
wider-push place [] all = (omega arith, tt)
wider-push place (x ∷ xs) all = (omega (arith, all.0), wider-push place xs all.1)

wider-one : (place : ℕ) (acc : List ℕ) → AllByRecursion (λ x. x < place) acc → AllByRecursion (λ x. x < place + 1) acc
wider-one place [] all = tt
wider-one place (x ∷ xs) all = (omega (arith, all.0), wider-one place xs all.1)

distinct-step : (word : Word) (place : ℕ) (acc : List ℕ) (d : Doc) (ds : List Doc) → AllByRecursion (λ x. x < place) acc
    → fold with_place (acc ++ place ∷ []) (standing_from (place + 1) word ds) ≡ (acc ++ place ∷ []) ++ places_from (place + 1) (has_word word) ds
    → fold with_place acc (standing_from (place + 1) word ds) ≡ acc ++ places_from (place + 1) (has_word word) ds
    → fold with_place acc (standing_from place word (d ∷ ds)) ≡ acc ++ places_from place (has_word word) (d ∷ ds)
distinct-step word place acc d ds all more once = by (is_among word d.words) (times_in d word) (some-count word d.words) (none-count word d.words)
  where
    rest : List ℕ
    rest = standing_from (place + 1) word ds

    found : List ℕ
    found = places_from (place + 1) (has_word word) ds

    by : (b : Bool) (n : ℕ) → (b ≡ true → 1 ≤ n) → (b ≡ false → n ≡ 0) → fold with_place acc (replicate n place ++ rest) ≡ acc ++ cond b (place ∷ found) found
    by true zero least most = absurd (omega (arith, least refl))
    by true (suc n) least most =
        ap (λ (xs : List ℕ). fold with_place xs (replicate n place ++ rest)) (with-new acc place all)
        ∙ (again n place acc rest ∙ (more ∙ append_assoc acc (place ∷ []) found))
    by false n least most = ap (λ (k : ℕ). fold with_place acc (replicate k place ++ rest)) (most refl) ∙ once

distinct-from : (word : Word) (place : ℕ) (acc : List ℕ) (docs : List Doc) → AllByRecursion (λ x. x < place) acc → fold with_place acc (standing_from place word docs) ≡ acc ++ places_from place (has_word word) docs
distinct-from word place acc [] all = sym (append-nil acc)
distinct-from word place acc (d ∷ ds) all =
    distinct-step word place acc d ds all (distinct-from word (place + 1) (acc ++ place ∷ []) ds (wider-push place acc all)) (distinct-from word (place + 1) acc ds (wider-one place acc all))

pub distinct-standing : (word : Word) (docs : List Doc) → distinct (standing_of word docs) ≡ places_where (has_word word) docs
distinct-standing word docs = distinct-from word 0 [] docs tt

-- no document passes
pub places-none : (place : ℕ) (docs : List Doc) → places_from place (λ d. false) docs ≡ []
places-none place [] = refl
places-none place (d ∷ ds) = places-none (place + 1) ds
