-- Parts of documents by numbers, and the places where words stand in them.
use Rattle.std.proofs.Common.{◌≡◌, ℕ, zero, suc, ◌+◌, ◌%◌, ◌<◌, ◌≤◌, ◌^◌, List, [], ◌∷◌, ◌++◌, length, map, Bool, true, false, cond, eqb, get_or, replicate, take, refl, sym, ap, ◌∙◌, subst, arith}
use Rattle.std.specs.List.{AllByRecursion}
use Rattle.std.proofs.lemmas.List.{get_or-map, length-map, map_push}
use Rattle.std.proofs.lemmas.Bool.Decides.{nat_tests}
use denote.Ref.{Bor}
use Rattle.fan_base.specs.declared.doc.Doc.{Doc}
use Rattle.fan_base.specs.declared.word.Word.{Word}
use Rattle.query_model.specs.Answers.{times_in}
use Rattle.query_model.specs.Parts.{part_from, part_of}
use Rattle.word_table.specs.declared.numbered.NumberedDoc.{NumberedDoc}
use Rattle.word_table.specs.Numbered.{AreNumbers, IsNumbered, doc_by, word_at}
use Rattle.word_table.specs.declared.dictionary.Dictionary.{Dictionary}
use Rattle.word_table.specs.Numbers.{Knows, with_words, words_in}
use Rattle.word_table.specs.Rows.{AreBelow, AreFewAndShort, lent}
use Rattle.word_table.specs.Rows as rows
use Rattle.shard_index.specs.Places.{standing_from, standing_of}
use Rattle.shard_index.specs.Standing.{AreShort}
use Rattle.shard_index.proofs.PartLemmas.{passed, taken}
use Rattle.shard_index.proofs.TotalLemmas.{all-places, all-rec}

-- where a word stands, as both crates say it

same-from : (place : ℕ) (word : Word) (docs : List Doc) → rows.standing_from place word docs ≡ standing_from place word docs
same-from place word [] = refl
same-from place word (doc ∷ docs) = ap (λ (ps : List ℕ). replicate (times_in doc word) place ++ ps) (same-from (place + 1) word docs)

pub same-standing : (docs : List Doc) → rows.standing_in docs ≡ (λ word. standing_of word docs)
same-standing docs i word = same-from 0 word docs i

-- documents by numbers

pub ids-by : (known : List Word) (docs : List NumberedDoc) → map (λ doc. doc.id) docs ≡ map (λ doc. doc.id) (map (doc_by known) docs)
ids-by known [] = refl
ids-by known (d ∷ ds) = ap (λ (ids : List ℕ). d.id ∷ ids) (ids-by known ds)

short-by : (known : List Word) (docs : List NumberedDoc) → AllByRecursion (λ doc. length doc.words ≤ 1000) docs → AllByRecursion (λ doc. length doc.words ≤ 1000) (map (doc_by known) docs)
short-by known [] short = tt
short-by known (d ∷ ds) short = (omega (arith, short.0, length-map d.words (word_at known)), short-by known ds short.1)

by-short : (known : List Word) (docs : List NumberedDoc) → AllByRecursion (λ doc. length doc.words ≤ 1000) (map (doc_by known) docs) → AllByRecursion (λ doc. length doc.words ≤ 1000) docs
by-short known [] short = tt
by-short known (d ∷ ds) short = (omega (arith, short.0, length-map d.words (word_at known)), by-short known ds short.1)

pub are-short : (known : List Word) (docs : List NumberedDoc) → AreFewAndShort docs → AreShort (map (doc_by known) docs)
are-short known docs few = all-places (λ doc. length doc.words ≤ 1000) (map (doc_by known) docs) (short-by known docs few.short)

pub are-few : (known : List Word) (docs : List NumberedDoc) → AreFewAndShort docs → length (map (doc_by known) docs) < 2 ^ 32
are-few known docs few = omega (arith, few.few, length-map docs (doc_by known))

-- the part of a shard

pub below-push : (count : ℕ) (docs : List NumberedDoc) (doc : NumberedDoc) → AreBelow count docs → AllByRecursion (λ n. n < count) doc.words → AreBelow count (docs ++ doc ∷ [])
below-push count [] doc all one = (one, tt)
below-push count (d ∷ ds) doc all one = (all.0, below-push count ds doc all.1 one)

part-all : (P : Doc → Type 0) (place shards number : ℕ) (docs : List Doc) → AllByRecursion P docs → AllByRecursion P (part_from place docs shards number)
part-all P place shards number [] all = tt
part-all P place shards number (d ∷ ds) all = by (eqb (place % shards) number) (part-all P (place + 1) shards number ds all.1)
  where
    by : (b : Bool) → AllByRecursion P (part_from (place + 1) ds shards number)
        → AllByRecursion P (cond b (d ∷ part_from (place + 1) ds shards number) (part_from (place + 1) ds shards number))
    by true more = (all.0, more)
    by false more = more

pub part-short : (shards number : ℕ) (docs : List Doc) → AreShort docs → AreShort (part_of docs shards number)
part-short shards number docs short =
    all-places (λ doc. length doc.words ≤ 1000) (part_of docs shards number)
    (part-all (λ doc. length doc.words ≤ 1000) 0 shards number docs (all-rec (λ doc. length doc.words ≤ 1000) docs short))

one-zero : (place : ℕ) → eqb (place % 1) 0 ≡ true
one-zero place = grind (arith, nat_tests)

all-from : (place : ℕ) (docs : List Doc) → part_from place docs 1 0 ≡ docs
all-from place [] = refl
all-from place (d ∷ ds) =
    ap (λ (b : Bool). cond b (d ∷ part_from (place + 1) ds 1 0) (part_from (place + 1) ds 1 0)) (one-zero place)
    ∙ ap (λ (es : List Doc). d ∷ es) (all-from (place + 1) ds)

-- the one shard of all documents has them all
pub part-one : (docs : List Doc) → part_of docs 1 0 ≡ docs
part-one docs = all-from 0 docs

-- what is known of the documents of a part
pub picked-few : (known : List Word) (picked : List NumberedDoc) (docs : List Doc) (few : length docs < 2 ^ 32) (shards number : ℕ) → length (part_of docs shards number) ≤ length docs → AreShort docs
    → map (doc_by known) picked ≡ part_of docs shards number → AreFewAndShort picked
picked-few known picked docs few shards number less short is = record {
  few = omega (arith, few, less, ap length is, length-map picked (doc_by known));
  short = by-short known picked (all-rec (λ doc. length doc.words ≤ 1000) (map (doc_by known) picked) (subst (λ (ds : List Doc). AreShort ds) (sym is) (part-short shards number docs short)));
}

-- more words are known

pub more-known : (known more : List Word) (docs : List NumberedDoc) → ((ws ms : List Word) (numbered : NumberedDoc) (doc : Doc) → IsNumbered ws numbered doc → IsNumbered (with_words ws ms) numbered doc)
    → AllByRecursion (AreNumbers known) docs → map (doc_by (with_words known more)) docs ≡ map (doc_by known) docs
more-known known more [] stay all = refl
more-known known more (d ∷ ds) stay all =
    let one = stay known more d (doc_by known d) (record { doc_is = refl; numbers = all.0 }) in
    λ i. one.doc_is i ∷ more-known known more ds stay all.1 i

pub numbers-known : (known more : List Word) (docs : List NumberedDoc) → ((ws ms : List Word) (numbered : NumberedDoc) (doc : Doc) → IsNumbered ws numbered doc → IsNumbered (with_words ws ms) numbered doc)
    → AllByRecursion (AreNumbers known) docs → AllByRecursion (AreNumbers (with_words known more)) docs
numbers-known known more [] stay all = tt
numbers-known known more (d ∷ ds) stay all =
    ((stay known more d (doc_by known d) (record { doc_is = refl; numbers = all.0 })).numbers, numbers-known known more ds stay all.1)

-- documents that are lent

pub lent-push : (old new : List (Bor NumberedDoc)) (doc : Bor NumberedDoc) → new ≡ old ++ doc ∷ [] → lent new ≡ lent old ++ doc.now ∷ []
lent-push old new doc pushed = ap lent pushed ∙ map_push (λ (d : Bor NumberedDoc). d.now) old doc

-- a document is picked

pub picks-docs : (known : List Word) (old new : List NumberedDoc) (docs : List NumberedDoc) (shards number place : ℕ) (doc : NumberedDoc) → new ≡ old ++ doc ∷ [] → place < length docs → doc ≡ get_or docs place doc
    → place % shards ≡ number → map (doc_by known) old ≡ part_of (take place (map (doc_by known) docs)) shards number → map (doc_by known) new ≡ part_of (take (place + 1) (map (doc_by known) docs)) shards number
picks-docs known old new docs shards number place doc pushed low is mine before =
    ap (λ (ds : List NumberedDoc). map (doc_by known) ds) pushed
    ∙ (map_push (doc_by known) old doc
    ∙ (ap (λ (ds : List Doc). ds ++ doc_by known doc ∷ []) before
    ∙ sym (taken (map (doc_by known) docs) shards number place (doc_by known doc) (omega (arith, low, length-map docs (doc_by known)))
    (ap (doc_by known) is ∙ sym (get_or-map (doc_by known) docs place doc (doc_by known doc) low)) mine)))

pub passes-docs : (known : List Word) (old : List NumberedDoc) (docs : List NumberedDoc) (shards number place : ℕ) (doc : NumberedDoc) → place < length docs → doc ≡ get_or docs place doc → (place % shards ≡ number → ⊥)
    → map (doc_by known) old ≡ part_of (take place (map (doc_by known) docs)) shards number → map (doc_by known) old ≡ part_of (take (place + 1) (map (doc_by known) docs)) shards number
passes-docs known old docs shards number place doc low is others before =
    before
    ∙ sym (passed (map (doc_by known) docs) shards number place (doc_by known doc) (omega (arith, low, length-map docs (doc_by known)))
    (ap (doc_by known) is ∙ sym (get_or-map (doc_by known) docs place doc (doc_by known doc) low)) others)

below-one : (count : ℕ) (docs : List NumberedDoc) (k : ℕ) (d : NumberedDoc) → AreBelow count docs → k < length docs → AllByRecursion (λ n. n < count) ((get_or docs k d).words)
below-one count [] k d all low = absurd (omega (arith, low))
below-one count (e ∷ es) zero d all low = all.0
below-one count (e ∷ es) (suc k) d all low = below-one count es k d all.1 (omega (arith, low))

pub picks-numbers : (count : ℕ) (old new docs : List NumberedDoc) (place : ℕ) (doc : NumberedDoc) → new ≡ old ++ doc ∷ [] → place < length docs → doc ≡ get_or docs place doc
    → AreBelow count docs → AreBelow count old → AreBelow count new
picks-numbers count old new docs place doc pushed low is all before =
    subst (λ (ds : List NumberedDoc). AreBelow count ds) (sym pushed)
    (below-push count old doc before (subst (λ (d : NumberedDoc). AllByRecursion (λ n. n < count) d.words) (sym is) (below-one count docs place doc all low)))

-- a document is numbered

-- the dictionary knows its words, no more than so many, and by them these numbers are those of the documents
pub record IsPartBy (dictionary : Dictionary) (part : List NumberedDoc) (docs : List Doc) (most : ℕ) : Type 0 where
  pub knows : Knows dictionary (words_in dictionary)
  pub numbers : AllByRecursion (AreNumbers (words_in dictionary)) part
  pub docs_are : map (doc_by (words_in dictionary)) part ≡ docs
  pub few : length (words_in dictionary) ≤ most

pub part-push : (old new : Dictionary) (part more : List NumberedDoc) (docs : List Doc) (numbered : NumberedDoc) (doc : Doc) (most : ℕ)
    → ((ws ms : List Word) (n : NumberedDoc) (d : Doc) → IsNumbered ws n d → IsNumbered (with_words ws ms) n d) → ((ws ms : List Word) → length (with_words ws ms) ≤ length ws + length ms)
    → IsPartBy old part docs most → Knows new (with_words (words_in old) doc.words) → IsNumbered (with_words (words_in old) doc.words) numbered doc → more ≡ part ++ numbered ∷ [] → length doc.words ≤ 1000
    → IsPartBy new more (docs ++ doc ∷ []) (most + 1000)
part-push old new part more docs numbered doc most stay fewer before knows is pushed short = record {
  knows = subst (λ (ws : List Word). Knows new ws) (sym knows.words_are) knows;
  numbers = subst (λ (ws : List Word). AllByRecursion (AreNumbers ws) more) (sym knows.words_are)
      (subst (λ (ds : List NumberedDoc). AllByRecursion (AreNumbers (with_words (words_in old) doc.words)) ds) (sym pushed)
      (below-push (length (with_words (words_in old) doc.words)) part numbered (numbers-known (words_in old) doc.words part stay before.numbers) is.numbers));
  docs_are = (λ i. map (doc_by (knows.words_are i)) (pushed i))
      ∙ (map_push (doc_by (with_words (words_in old) doc.words)) part numbered
      ∙ (λ i. (more-known (words_in old) doc.words part stay before.numbers ∙ before.docs_are) i ++ is.doc_is i ∷ []));
  few = omega (arith, ap length knows.words_are, fewer (words_in old) doc.words, before.few, short);
}
