-- The parts of all shards together.
use Rattle.std.proofs.Common.{◌≡◌, ℕ, zero, suc, ◌+◌, ◌<◌, ◌≤◌, ◌^◌, List, [], ◌∷◌, ◌++◌, length, get_or, refl, sym, ap, ◌∙◌, arith, zero-add, map, take, sum}
use Rattle.std.specs.List.{range_with_len, filter_map, sum_by}
use Rattle.std.proofs.lemmas.List.{length-map, length-take-le}
use Rattle.std.proofs.lemmas.List.FromFn.{get_or-map-range_with_len, length-map-range_with_len}
use Rattle.std.proofs.lemmas.List.Sums.{sum_by-cons, sum_by_more_le, sum-map}
use Rattle.fan_base.specs.declared.doc.Doc.{Doc}
use Rattle.fan_base.specs.declared.word.Word.{Word}
use Rattle.query_grammar.specs.Tree.{Tree}
use Rattle.query_model.specs.declared.line.Ask.{Ask}
use Rattle.query_model.specs.declared.line.Ask.TheVariants as ask
use Rattle.query_model.specs.declared.reply.Hits.{Hits}
use Rattle.query_model.specs.Answers.{having, hits_of, holding, weight_of}
use Rattle.query_model.specs.Parts.{merged_hits, part_before}
use Rattle.shard_index.specs.declared.counts.Counts.{Counts}
use Rattle.shard_index.specs.Counting.{counts_of}
use Rattle.shard_index.specs.Parts.{by_shard, weights_by}
use Rattle.shard_index.proofs.MergeLemmas.{few-take, weight-le, total-of}
use Rattle.query_parts.specs.declared.part.PartAnswer.{PartAnswer}
use Rattle.query_parts.specs.Parts.{AreParts, counts_in, hits_in, mark_in, part_answer}
use Rattle.query_parts.specs.Merging.{AreCounts}

pub total-fits : (parts : List PartAnswer) (i total : ℕ) (part : PartAnswer) → i < length parts → part ≡ get_or parts i part → total ≡ sum (map mark_in (take i parts)) → sum (map mark_in parts) < 2 ^ 64 → total + mark_in part < 2 ^ 64
total-fits parts i total part within is so_far fits =
    let grown = sum_by_more_le mark_in parts i part within in
    let here = ap mark_in is in
    let before = sum-map mark_in (take i parts) in
    let all = sum-map mark_in parts in
    omega arith

module _ (docs : ℕ → List Doc) where
  -- the hits among parts that have hits
  hits-among : (e : Tree) (ks : List ℕ) → filter_map hits_in (map (λ k. part_answer (ask.Find e) (docs k)) ks) ≡ map (λ k. hits_of e (docs k)) ks
  hits-among e [] = refl
  hits-among e (k ∷ ks) = ap (λ hs. hits_of e (docs k) ∷ hs) (hits-among e ks)

  -- the counts among parts that have counts
  counts-among : (n : ℕ) (words : List Word) (ks : List ℕ) → filter_map counts_in (map (λ k. part_answer (ask.Top n words) (docs k)) ks) ≡ map (λ k. counts_of words (docs k)) ks
  counts-among n words [] = refl
  counts-among n words (k ∷ ks) = ap (λ cs. counts_of words (docs k) ∷ cs) (counts-among n words ks)

  -- the numbers of several parts are the totals of their hits
  counts-are-totals : (e : Tree) (ks : List ℕ) → sum (map mark_in (map (λ k. part_answer (ask.Count e) (docs k)) ks)) ≡ sum (map (λ h. h.total) (map (λ k. hits_of e (docs k)) ks))
  counts-are-totals e ks = sum-map mark_in (map part ks) ∙ (by ks ∙ sym (sum-map total (map hits ks)))
    where
      part : ℕ → PartAnswer
      part k = part_answer (ask.Count e) (docs k)

      hits : ℕ → Hits
      hits k = hits_of e (docs k)

      total : Hits → ℕ
      total h = h.total

      by : (js : List ℕ) → sum_by mark_in (map part js) ≡ sum_by total (map hits js)
      by [] = refl
      by (k ∷ js) = sum_by-cons mark_in (part k) (map part js) ∙ ((λ i. sym (total-of e (docs k)) i + by js i) ∙ sym (sum_by-cons total (hits k) (map hits js)))

  presences-are-totals : (e : Tree) (ks : List ℕ) → sum (map mark_in (map (λ k. part_answer (ask.Present e) (docs k)) ks)) ≡ sum (map (λ h. h.total) (map (λ k. hits_of e (docs k)) ks))
  presences-are-totals e ks = same ks ∙ counts-are-totals e ks
    where
      same : (js : List ℕ) → sum (map mark_in (map (λ k. part_answer (ask.Present e) (docs k)) js)) ≡ sum (map mark_in (map (λ k. part_answer (ask.Count e) (docs k)) js))
      same js = ap sum (by js)
        where
          by : (is : List ℕ) → map mark_in (map (λ k. part_answer (ask.Present e) (docs k)) is) ≡ map mark_in (map (λ k. part_answer (ask.Count e) (docs k)) is)
          by [] = refl
          by (k ∷ is) = ap (λ ns. length (holding e (docs k)) ∷ ns) (by is)

-- the parts of a query that is known
parts-for : (asks known : Ask) (docs : List Doc) (shards before : ℕ) (parts : List PartAnswer) → asks ≡ known → AreParts asks docs shards before parts
    → parts ≡ by_shard (λ n. part_answer known (part_before docs shards n before)) shards
parts-for asks known docs shards before parts is are = are.parts_are ∙ ap (λ a. by_shard (λ n. part_answer a (part_before docs shards n before)) shards) is

pub hits-of-parts : (asks : Ask) (e : Tree) (docs : List Doc) (shards before : ℕ) (parts : List PartAnswer) → asks ≡ ask.Find e → AreParts asks docs shards before parts
    → filter_map hits_in parts ≡ by_shard (λ n. hits_of e (part_before docs shards n before)) shards
hits-of-parts asks e docs shards before parts is are =
    ap (λ ps. filter_map hits_in ps) (parts-for asks (ask.Find e) docs shards before parts is are)
    ∙ hits-among (λ n. part_before docs shards n before) e (range_with_len 0 shards)

pub counts-of-parts : (asks : Ask) (n : ℕ) (words : List Word) (docs : List Doc) (shards before : ℕ) (parts : List PartAnswer) (counts : List Counts)
    → asks ≡ ask.Top n words → counts ≡ filter_map counts_in parts → AreParts asks docs shards before parts → AreCounts words docs shards before counts
counts-of-parts asks n words docs shards before parts counts is among are = record {
  some = are.some;
  few = are.few;
  within = are.within;
  parts_are = among ∙ (ap (λ ps. filter_map counts_in ps) (parts-for asks (ask.Top n words) docs shards before parts is are)
      ∙ counts-among (λ k. part_before docs shards k before) n words (range_with_len 0 shards));
}

-- what is said of the hits of all shards
abbrev pub HitsLaw : Type 0
HitsLaw = (e : Tree) (docs : List Doc) (shards before : ℕ) → 0 < shards → merged_hits (by_shard (λ n. hits_of e (part_before docs shards n before)) shards) ≡ hits_of e (take before docs)

abbrev pub TotalsLaw : Type 0
TotalsLaw = (e : Tree) (docs : List Doc) (shards before : ℕ) → 0 < shards → sum (map (λ hits. hits.total) (by_shard (λ n. hits_of e (part_before docs shards n before)) shards)) ≤ length docs

totals-whole : HitsLaw → (e : Tree) (docs : List Doc) (shards before : ℕ) → 0 < shards
    → sum (map (λ hits. hits.total) (by_shard (λ n. hits_of e (part_before docs shards n before)) shards)) ≡ length (holding e (take before docs))
unfolding merged_hits
totals-whole whole e docs shards before some = ap (λ hits. hits.total) (whole e docs shards before some) ∙ total-of e (take before docs)

count-totals : (asks : Ask) (e : Tree) (docs : List Doc) (shards before : ℕ) (parts : List PartAnswer) → asks ≡ ask.Count e → AreParts asks docs shards before parts
    → sum (map mark_in parts) ≡ sum (map (λ hits. hits.total) (by_shard (λ n. hits_of e (part_before docs shards n before)) shards))
count-totals asks e docs shards before parts is are =
    ap (λ ps. sum (map mark_in ps)) (parts-for asks (ask.Count e) docs shards before parts is are)
    ∙ counts-are-totals (λ n. part_before docs shards n before) e (range_with_len 0 shards)

presence-totals : (asks : Ask) (e : Tree) (docs : List Doc) (shards before : ℕ) (parts : List PartAnswer) → asks ≡ ask.Present e → AreParts asks docs shards before parts
    → sum (map mark_in parts) ≡ sum (map (λ hits. hits.total) (by_shard (λ n. hits_of e (part_before docs shards n before)) shards))
presence-totals asks e docs shards before parts is are =
    ap (λ ps. sum (map mark_in ps)) (parts-for asks (ask.Present e) docs shards before parts is are)
    ∙ presences-are-totals (λ n. part_before docs shards n before) e (range_with_len 0 shards)

pub count-is : HitsLaw → (asks : Ask) (e : Tree) (docs : List Doc) (shards before : ℕ) (parts : List PartAnswer) → asks ≡ ask.Count e → AreParts asks docs shards before parts
    → sum (map mark_in parts) ≡ length (holding e (take before docs))
count-is whole asks e docs shards before parts is are = count-totals asks e docs shards before parts is are ∙ totals-whole whole e docs shards before are.some

pub presence-is : HitsLaw → (asks : Ask) (e : Tree) (docs : List Doc) (shards before : ℕ) (parts : List PartAnswer) → asks ≡ ask.Present e → AreParts asks docs shards before parts
    → sum (map mark_in parts) ≡ length (holding e (take before docs))
presence-is whole asks e docs shards before parts is are = presence-totals asks e docs shards before parts is are ∙ totals-whole whole e docs shards before are.some

pub count-fits : TotalsLaw → (asks : Ask) (e : Tree) (docs : List Doc) (shards before : ℕ) (parts : List PartAnswer) → asks ≡ ask.Count e → AreParts asks docs shards before parts
    → sum (map mark_in parts) < 2 ^ 64
count-fits few asks e docs shards before parts is are =
    omega (arith, count-totals asks e docs shards before parts is are, few e docs shards before are.some, are.few)

pub presence-fits : TotalsLaw → (asks : Ask) (e : Tree) (docs : List Doc) (shards before : ℕ) (parts : List PartAnswer) → asks ≡ ask.Present e → AreParts asks docs shards before parts
    → sum (map mark_in parts) < 2 ^ 64
presence-fits few asks e docs shards before parts is are =
    omega (arith, presence-totals asks e docs shards before parts is are, few e docs shards before are.some, are.few)

pub hits-fit : TotalsLaw → (asks : Ask) (e : Tree) (docs : List Doc) (shards before : ℕ) (parts : List PartAnswer) → asks ≡ ask.Find e → AreParts asks docs shards before parts
    → sum (map (λ hits. hits.total) (filter_map hits_in parts)) < 2 ^ 64
hits-fit few asks e docs shards before parts is are =
    omega (arith, ap (λ hs. sum (map (λ hits. hits.total) hs)) (hits-of-parts asks e docs shards before parts is are), few e docs shards before are.some, are.few)

-- weights of words, each once

pub weights-more : (weight : Word → ℕ) (words once : List Word) (weights kept : List ℕ) (i g d : ℕ) (word : Word) → i < length words → word ≡ get_or words i word → g ≡ get_or weights i d
    → weights ≡ map weight words → kept ≡ map weight once → kept ++ g ∷ [] ≡ map weight (once ++ word ∷ [])
weights-more weight words once weights kept i g d word within is here are so_far =
    (λ j. so_far j ++ at j ∷ []) ∙ sym (mapped once)
  where
    got : (ws : List Word) (k : ℕ) → k < length ws → get_or (map weight ws) k d ≡ weight (get_or ws k word)
    got [] k h = absurd (omega (arith, h))
    got (w ∷ ws) zero h = refl
    got (w ∷ ws) (suc k) h = got ws k (omega (arith, h))

    at : g ≡ weight word
    at = here ∙ (ap (λ gs. get_or gs i d) are ∙ (got words i within ∙ ap weight (sym is)))

    mapped : (ws : List Word) → map weight (ws ++ word ∷ []) ≡ map weight ws ++ weight word ∷ []
    mapped [] = refl
    mapped (w ∷ ws) = ap (λ gs. weight w ∷ gs) (mapped ws)

-- what all shards count

pub length-counts : (words : List Word) (docs : List Doc) (shards before : ℕ) (parts : List Counts) → AreCounts words docs shards before parts
    → (k : ℕ) (d : Counts) → k < length parts → length (get_or parts k d).with ≡ length words
length-counts words docs shards before parts are k d within =
    let given : ℕ → Counts = λ n. counts_of words (part_before docs shards n before) in
    let inside : k < shards = omega (arith, within, ap length are.parts_are, length-map-range_with_len given 0 shards) in
    ap (λ ps. length (get_or ps k d).with) are.parts_are
    ∙ (ap (λ (p : Counts). length p.with) (get_or-map-range_with_len given 0 shards k k d inside (zero-add k))
    ∙ length-map words (λ word. length (having word (part_before docs shards k before))))

-- what is said of the counts of all shards
abbrev pub WeightsLaw : Type 0
WeightsLaw = (words : List Word) (docs : List Doc) (shards before : ℕ) → 0 < shards
    → weights_by (length (take before docs)) (length words) (by_shard (λ n. counts_of words (part_before docs shards n before)) shards) ≡ map (weight_of (take before docs)) words

pub weights-are : WeightsLaw → (words : List Word) (docs : List Doc) (shards before many : ℕ) (parts : List Counts) → AreCounts words docs shards before parts → many ≡ length words
    → weights_by before many parts ≡ map (weight_of (take before docs)) words
weights-are whole words docs shards before many parts are is =
    let front : before ≡ length (take before docs) = sym (length-take-le before docs are.within) in
    (λ i. weights_by (front i) (is i) (are.parts_are i)) ∙ whole words docs shards before are.some

-- weights are low

pub weights-low : (docs : List Doc) (before : ℕ) (words : List Word) → length docs < 2 ^ 32 → (k d : ℕ) → k < length (map (weight_of (take before docs)) words) → get_or (map (weight_of (take before docs)) words) k d < 2 ^ 32
weights-low docs before [] few k d within = absurd (omega (arith, within))
weights-low docs before (word ∷ words) few zero d within = omega (arith, weight-le (take before docs) word, few-take before docs, few)
weights-low docs before (word ∷ words) few (suc k) d within = weights-low docs before words few k d (omega (arith, within))
