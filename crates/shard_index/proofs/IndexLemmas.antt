-- What an index tells of its first documents.
use Rattle.std.proofs.Common.{◌≡◌, ℕ, zero, suc, ◌+◌, ◌*◌, ◌<◌, ◌≤◌, ◌^◌, List, [], ◌∷◌, ◌++◌, Bool, true, false, cond, ltb, length, get_or, replicate, refl, sym, ap, ◌∙◌, subst, arith, take, map, zip}
use Rattle.std.specs.List.{All, AllByRecursion}
use Rattle.std.specs.List.Sorted.{IsPartitionedBy}
use Rattle.std.proofs.lemmas.List.{length-map, take-map, length-take-le, take_all}
use Rattle.std.proofs.lemmas.Bool.{ltb-true}
use Rattle.fan_base.specs.declared.doc.Doc.{Doc}
use Rattle.fan_base.specs.declared.word.Word.{Word}
use Rattle.query_grammar.specs.Tree.{Tree}
use Rattle.query_model.specs.Answers.{having, hits_of, ranked, times_in}
use Rattle.query_model.specs.Parts.{weighted_score, weighted_top}
use Rattle.shard_index.specs.declared.index.Index.{Index}
use Rattle.shard_index.specs.Counting.{DifferentWords}
use Rattle.word_table.specs.Told.{Tell, repeated}
use Rattle.word_table.proofs.ToldLemmas.{each-above-0}
use Rattle.shard_index.specs.Places.{front_of, has_word, holds_in, places_where, standing_of}
use Rattle.shard_index.specs.Selections.{hits_where}
use Rattle.shard_index.specs.Standing.{Indexes}
use Rattle.shard_index.proofs.NarrowLemmas.{stand-where}
use Rattle.shard_index.proofs.PlaceLemmas.{below-standing, below-where, distinct-standing, front-replicate, length-places}
use Rattle.shard_index.proofs.ScoreLemmas.{differ-take, score-fits, score-more, zip-maps}
use Rattle.shard_index.proofs.TotalLemmas.{all-rec}
use Rattle.shard_index.proofs.Sorted.{all-take}

pub many-ids : (index : Index) (docs : List Doc) → Indexes index docs → length index.ids.items ≡ length docs
many-ids index docs stands = ap length stands.ids ∙ length-map docs (λ d. d.id)

-- where a word stands among the first documents

pub told-parted : (docs : List Doc) (front : ℕ) (w : Word) (places times : List ℕ) → Tell places times (standing_of w docs) → IsPartitionedBy (λ p. ltb p front) places
told-parted docs front w places times tell = (stand-where (has_word w) docs places (tell.once ∙ distinct-standing w docs)).parted front

pub places-front : (docs : List Doc) (front : ℕ) (w : Word) (places times below : List ℕ) → Tell places times (standing_of w docs) → below ≡ front_of front places → below ≡ places_where (has_word w) (take front docs)
places-front docs front w places times below tell cut =
    cut ∙ (ap (λ (ps : List ℕ). front_of front ps) (tell.once ∙ distinct-standing w docs) ∙ below-where front (has_word w) docs)

-- where all documents are asked for, the whole list
pub places-whole : (index : Index) (docs : List Doc) (front : ℕ) (w : Word) (places times : List ℕ) → Indexes index docs → front ≡ length index.ids.items → Tell places times (standing_of w docs)
    → places ≡ places_where (has_word w) (take front docs)
places-whole index docs front w places times stands all tell =
    tell.once ∙ (distinct-standing w docs ∙ ap (λ ds. places_where (has_word w) ds) (sym (take_all front docs (omega (arith, all, many-ids index docs stands)))))

front-no-longer : (front : ℕ) (places : List ℕ) → length (front_of front places) ≤ length places
front-no-longer front [] = omega arith
front-no-longer front (p ∷ ps) = by (ltb p front) (front-no-longer front ps)
  where
    by : (b : Bool) → length (front_of front ps) ≤ length ps → length (cond b (p ∷ front_of front ps) []) ≤ suc (length ps)
    by true h = omega (arith, h)
    by false h = omega arith

pub times-enough : (standing : List ℕ) (front : ℕ) (places times below : List ℕ) → Tell places times standing → below ≡ front_of front places → length below ≤ length times
times-enough standing front places times below tell cut = omega (arith, ap length cut, front-no-longer front places, tell.many)

-- the front of places with their times
repeated-front : (front : ℕ) (places times : List ℕ) → length times ≡ length places → AllByRecursion (λ n. 0 < n) times
    → repeated (front_of front places) (take (length (front_of front places)) times) ≡ front_of front (repeated places times)
repeated-front front [] [] many some = refl
repeated-front front [] (t ∷ ts) many some = absurd (omega (arith, many))
repeated-front front (p ∷ ps) [] many some = absurd (omega (arith, many))
repeated-front front (p ∷ ps) (zero ∷ ts) many some = absurd (omega (arith, some.0))
repeated-front front (p ∷ ps) (suc n ∷ ts) many some = by (ltb p front) refl (repeated-front front ps ts (omega (arith, many)) some.1)
  where
    by : (b : Bool) → ltb p front ≡ b → repeated (front_of front ps) (take (length (front_of front ps)) ts) ≡ front_of front (repeated ps ts)
        → repeated (cond b (p ∷ front_of front ps) []) (take (length (cond b (p ∷ front_of front ps) [])) (suc n ∷ ts)) ≡ front_of front (replicate (suc n) p ++ repeated ps ts)
    by true is more =
        ap (λ (rs : List ℕ). replicate (suc n) p ++ rs) more
        ∙ sym (front-replicate front p (suc n) (repeated ps ts) (ltb-true p front is))
    by false is more = sym (ap (λ (b : Bool). cond b (p ∷ front_of front (replicate n p ++ repeated ps ts)) []) is)

pub told-front : (docs : List Doc) (front : ℕ) (w : Word) (places times below beside : List ℕ) → Tell places times (standing_of w docs) → below ≡ front_of front places → beside ≡ take (length below) times
    → repeated below beside ≡ standing_of w (take front docs)
told-front docs front w places times below beside tell cut is =
    (λ i. repeated (cut i) ((is ∙ ap (λ (ps : List ℕ). take (length ps) times) cut) i))
    ∙ (repeated-front front places times tell.many (each-above-0 times tell.some) ∙ (ap (λ (ps : List ℕ). front_of front ps) tell.are ∙ below-standing front w docs))

pub ids-front : (index : Index) (docs : List Doc) (front : ℕ) (ids : List ℕ) → Indexes index docs → ids ≡ take front index.ids.items → ids ≡ map (λ d. d.id) (take front docs)
ids-front index docs front ids stands is = is ∙ (ap (λ xs. take front xs) stands.ids ∙ take-map (λ d. d.id) front docs)

pub few-front : (index : Index) (docs : List Doc) (front : ℕ) (ids : List ℕ) → Indexes index docs → front ≤ length index.ids.items → ids ≡ take front index.ids.items → length ids < 2 ^ 32
few-front index docs front ids stands within is = omega (arith, ap length is, length-take-le front index.ids.items within, many-ids index docs stands, stands.few)

pub hits-are-of : (e : Tree) (docs : List Doc) → hits_where (holds_in e) docs ≡ hits_of e docs
unfolding hits_of
hits-are-of e docs = refl

-- counts

pub count-having : (w : Word) (docs : List Doc) (places : List ℕ) → places ≡ places_where (has_word w) docs → length places ≡ length (having w docs)
count-having w docs places is = ap length is ∙ length-places 0 (has_word w) docs

-- scores

pub many-front : (index : Index) (docs : List Doc) (front : ℕ) → Indexes index docs → front ≤ length index.ids.items → length (take front docs) ≡ front
many-front index docs front stands within = length-take-le front docs (omega (arith, within, many-ids index docs stands))

zeros-map : (f : Doc → ℕ) (docs : List Doc) → ((d : Doc) → f d ≡ 0) → replicate (length docs) 0 ≡ map f docs
zeros-map f [] h = refl
zeros-map f (d ∷ ds) h = (λ i. sym (h d) i ∷ zeros-map f ds h i)

pub no-totals : (words : List Word) (weights : List ℕ) (docs : List Doc) (n : ℕ) → length docs ≡ n → replicate n 0 ≡ map (weighted_score (zip (take 0 words) (take 0 weights))) docs
no-totals words weights docs n is = ap (λ k. replicate k 0) (sym is) ∙ zeros-map (weighted_score (zip (take 0 words) (take 0 weights))) docs (λ d. refl)

room-rec : (words : List Word) (weights : List ℕ) (i : ℕ) (v : Word) (docs : List Doc) → DifferentWords words → AllByRecursion (λ g. g < 2 ^ 32) weights → i < length words → i < length weights
    → AllByRecursion (λ d. length d.words ≤ 1000) docs
    → AllByRecursion (λ d. weighted_score (zip (take i words) (take i weights)) d + times_in d (get_or words i v) * get_or weights i 0 < 2 ^ 64) docs
room-rec words weights i v [] differ low a b short = tt
room-rec words weights i v (d ∷ ds) differ low a b short = (
  subst (λ (n : ℕ). n < 2 ^ 64) (sym (score-more d words weights i v a b))
      (score-fits d (take (i + 1) words) (take (i + 1) weights) (differ-take (i + 1) words differ) (all-take (λ g. g < 2 ^ 32) (i + 1) weights low) short.0),
  room-rec words weights i v ds differ low a b short.1,
)

pub room-for : (index : Index) (docs : List Doc) (front : ℕ) (words : List Word) (weights : List ℕ) (i : ℕ) (v : Word) → Indexes index docs → DifferentWords words → All (λ g. g < 2 ^ 32) weights → i < length words → i < length weights
    → AllByRecursion (λ d. weighted_score (zip (take i words) (take i weights)) d + times_in d (get_or words i v) * get_or weights i 0 < 2 ^ 64) (take front docs)
room-for index docs front words weights i v stands differ low a b =
    room-rec words weights i v (take front docs) differ (all-rec (λ g. g < 2 ^ 32) weights low) a b
    (all-take (λ d. length d.words ≤ 1000) front docs (all-rec (λ d. length d.words ≤ 1000) docs stands.short))

pub totals-more : (docs : List Doc) (words : List Word) (weights totals : List ℕ) (i : ℕ) (v : Word) → i < length words → i < length weights
    → totals ≡ map (λ d. weighted_score (zip (take i words) (take i weights)) d + times_in d (get_or words i v) * get_or weights i 0) docs
    → totals ≡ map (weighted_score (zip (take (i + 1) words) (take (i + 1) weights))) docs
totals-more docs words weights totals i v a b is = is ∙ (λ k. map (λ d. score-more d words weights i v a b k) docs)

pub top-of-all : (k : ℕ) (docs : List Doc) (words : List Word) (weights ids totals : List ℕ) → ids ≡ map (λ d. d.id) docs → totals ≡ map (weighted_score (zip words weights)) docs
    → take k (ranked (zip ids totals)) ≡ weighted_top k words weights docs
unfolding weighted_top
top-of-all k docs words weights ids totals are is =
    (λ i. take k (ranked (zip (are i) (is i)))) ∙ ap (λ (all : List (ℕ × ℕ)). take k (ranked all)) (zip-maps (weighted_score (zip words weights)) docs)
