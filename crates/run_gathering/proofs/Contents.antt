-- What was taken out of the parts of all shards, as far as that has come, and what it is merged to.
use Rattle.std.proofs.Common.{◌≡◌, ℕ, ◌+◌, ◌∷◌, ◌++◌, true, false, List, [], refl, sym, ap, ◌∙◌, subst, arith}
use Rattle.std.specs.Prelude.{take, Result, Ok, IfOk}
use Rattle.fan_base.specs.declared.refusal.Memory.{Memory}
use Rattle.query_parts.specs.declared.merge.Merged.{Merged}
use Rattle.std.proofs.lemmas.List.FromFn.{map-range_with_len_more}
use Rattle.query_model.specs.declared.line.Ask.{Ask}
use Rattle.query_parts.specs.declared.part.PartAnswer.{PartAnswer}
use Rattle.fan_base.specs.declared.doc.Doc.{Doc}
use Rattle.query_model.specs.declared.line.Ask.TheVariants as ask
use Rattle.query_model.specs.declared.reply.Reply.{Reply}
use Rattle.query_model.specs.Answers.{answer}
use Rattle.query_model.specs.Documents.{docs_of}
use Rattle.query_parts.specs.declared.merge.Merged.TheVariants as merged
use Rattle.query_parts.specs.declared.ranking.Ranking.{Ranking}
use Rattle.query_parts.specs.Merging.{merged_of}
use Rattle.query_parts.specs.Parts.{AreParts, ArePartsOfSome}
use Rattle.fan_model.specs.Answered.{is_top}
use Rattle.fan_model.specs.Laws.{tells}
use Rattle.fan_model.specs.Places.{IsReplyAt}
use Rattle.fan_model.specs.Report.{Asking}
use Rattle.fan_parts.specs.Facts.{IsAskOf, IsAnswerAt, IsPlacedAnswer, IsRankingOf}
use Rattle.run_gathering.specs.Merging.{part_by, parts_by}

-- so many parts were taken out, and so many are left of all
pub record PartsSoFar (asked : Asking) (number all left shard : ℕ) (items : List PartAnswer) : Type 0 where
  pub together : shard + left ≡ all
  pub are : (asks : Ask) (before : ℕ) → IsAskOf asked number asks before → items ≡ parts_by asked asks before shard

pub parts_start : (asked : Asking) (number all : ℕ) → PartsSoFar asked number all all 0 []
parts_start asked number all = record { together = omega arith; are = λ asks before is. refl }

pub parts_more : (asked : Asking) (number all left less shard : ℕ) (items more : List PartAnswer) (content : PartAnswer) → PartsSoFar asked number all left shard items
    → left ≡ less + 1 → more ≡ items ++ content ∷ []
    → ((asks : Ask) (before : ℕ) → IsAskOf asked number asks before → content ≡ part_by asked asks before shard)
    → PartsSoFar asked number all less (shard + 1) more
parts_more asked number all left less shard items more content so one pushed is =
    let e : 0 + shard ≡ shard = omega arith in record {
      together = omega (arith, so.together, one);
      are = λ asks before ask.
          pushed ∙ (ap (λ (l : List PartAnswer). l ++ content ∷ []) (so.are asks before ask)
          ∙ (ap (λ (x : PartAnswer). parts_by asked asks before shard ++ x ∷ []) (is asks before ask)
          ∙ sym (map-range_with_len_more (part_by asked asks before) 0 shard shard e)));
    }

-- the whole, as the merging asks for it
pub are_parts : (asked : Asking) (number count before : ℕ) (asks : Ask) (items : List PartAnswer) → IsAskOf asked number asks before
    → items ≡ parts_by asked asks before count → count ≡ asked.shards → AreParts asks (docs_of asked.lines) asked.shards before items
are_parts asked number count before asks items is whole as_many = record {
  some = is.countable.some_shards;
  few = is.countable.few_documents;
  within = is.within;
  parts_are = whole ∙ ap (λ (k : ℕ). parts_by asked asks before k) as_many;
}

-- the same of an ask and a number that are these
pub same_parts : (asked : Asking) (before before' : ℕ) (asks asks' : Ask) (items : List PartAnswer) → AreParts asks (docs_of asked.lines) asked.shards before items
    → asks' ≡ asks → before' ≡ before → AreParts asks' (docs_of asked.lines) asked.shards before' items
same_parts asked before before' asks asks' items are same_ask same_before =
    subst (λ (a : Ask). AreParts a (docs_of asked.lines) asked.shards before' items) (sym same_ask)
    (subst (λ (b : ℕ). AreParts asks (docs_of asked.lines) asked.shards b items) (sym same_before) are)

pub of_some : (asked : Asking) (before : ℕ) (asks : Ask) (items : List PartAnswer) → AreParts asks (docs_of asked.lines) asked.shards before items → ArePartsOfSome asks before items
of_some asked before asks items are = record { docs = docs_of asked.lines; shards = asked.shards; are = are }

-- what the merging answered
pub merged_is : (result : Result Merged Memory) (field x : Merged) (docs : List Doc) (asks asks' : Ask) (before before' : ℕ)
    → IfOk result (λ (m : Merged). m ≡ merged_of asks' (take before' docs)) → result ≡ Ok field → field ≡ x → asks' ≡ asks → before' ≡ before → x ≡ merged_of asks (take before docs)
merged_is result field x docs asks asks' before before' ensured ok field_is same_ask same_before =
    sym field_is ∙ (subst (λ (r : Result Merged Memory). IfOk r (λ (m : Merged). m ≡ merged_of asks' (take before' docs))) ok ensured
    ∙ (ap (λ (a : Ask). merged_of a (take before' docs)) same_ask ∙ ap (λ (b : ℕ). merged_of asks (take b docs)) same_before))

-- what was merged is the answer, unless it is a ranking
pub reply_merged : (asks : Ask) (docs : List Doc) (answered : Reply) → merged.Reply answered ≡ merged_of asks docs → (answered ≡ answer asks docs) × (tells answered ≡ true) × (is_top asks ≡ false)
reply_merged (ask.Find e) docs answered is = let same : answered ≡ answer (ask.Find e) docs = cc in (same, ap tells same, refl)
reply_merged (ask.Count e) docs answered is = let same : answered ≡ answer (ask.Count e) docs = cc in (same, ap tells same, refl)
reply_merged (ask.Present e) docs answered is = let same : answered ≡ answer (ask.Present e) docs = cc in (same, ap tells same, refl)
reply_merged (ask.Top k words) docs answered is = absurd cc

pub ranking_merged : (asked : Asking) (asks : Ask) (before : ℕ) (ranking : Ranking) → merged.Ranking ranking ≡ merged_of asks (take before (docs_of asked.lines)) → IsRankingOf asked asks before ranking
ranking_merged asked (ask.Find e) before ranking is = absurd cc
ranking_merged asked (ask.Count e) before ranking is = absurd cc
ranking_merged asked (ask.Present e) before ranking is = absurd cc
ranking_merged asked (ask.Top k words) before ranking is = record { k = k; words = words; asks_is = refl; ranking_is = cc }

-- the answer is the reply at its place
pub placed_answer : (asked : Asking) (place number number' before : ℕ) (asks : Ask) (answered : Reply) → IsAnswerAt asked place number asks before → number' ≡ number
    → (answered ≡ answer asks (take before (docs_of asked.lines))) × (tells answered ≡ true) × (is_top asks ≡ false) → IsPlacedAnswer asked place number' answered
placed_answer asked place number number' before asks answered at same is = record {
  at = subst (λ (n : ℕ). IsReplyAt asked.lines place n answered) (sym same) (subst (λ (r : Reply). IsReplyAt asked.lines place number r) (sym is.0) at);
  is_answer = is.1;
}
