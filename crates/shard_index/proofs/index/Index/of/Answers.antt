use Rattle.std.proofs.Common.{◌≡◌, ℕ, List, map, sym, subst, ◌∙◌}
use Rattle.std.proofs.lemmas.List.{length-map}
use Rattle.fan_base.specs.declared.word.Word.{Word}
use Rattle.std.specs.List.Sorted.{IsNonDecreasing}
use Rattle.word_table.specs.declared.dictionary.Dictionary.{Dictionary}
use Rattle.word_table.specs.declared.numbered.NumberedDoc.{NumberedDoc}
use Rattle.word_table.specs.declared.sorted.Sorted.{Sorted}
use Rattle.word_table.specs.Numbered.{doc_by}
use Rattle.word_table.specs.Numbers.{Knows, words_in}
use Rattle.word_table.specs.Rows.{lent, standing_in}
use Rattle.word_table.specs.Told.{HasPlaces}
use Rattle.word_table.proofs.PairLemmas.{lent-many}
use Rattle.shard_index.specs.Bits.{AreSortedFor, HasBits}
use Rattle.shard_index.specs.Places.{standing_of}
use Rattle.shard_index.proofs.TableLemmas.{are-few, are-short, ids-by, same-standing}
use Rattle.shard_index.proofs.index.Index.of.Goals as goal

-- what is sorted by numbers of a dictionary is sorted for its words and the documents
sorted-for : (sorted : Sorted) (dictionary told : Dictionary) (numbered : List NumberedDoc) → told ≡ dictionary → Knows dictionary (words_in dictionary)
    → HasPlaces sorted (words_in told) (standing_in (map (doc_by (words_in told)) numbered)) → AreSortedFor sorted (words_in dictionary) (map (doc_by (words_in dictionary)) numbered)
sorted-for sorted dictionary told numbered is knows has = record {
  places = subst (λ (f : Word → List ℕ). HasPlaces sorted (words_in dictionary) f) (same-standing (map (doc_by (words_in dictionary)) numbered))
      (subst (λ (d : Dictionary). HasPlaces sorted (words_in d) (standing_in (map (doc_by (words_in d)) numbered))) is has);
  differ = knows.differ;
}

pub returns : goal.returns
returns c =
    let known = words_in c.args.dictionary.now.value in
    let numbered = lent c.args.docs.now in
    let docs = map (doc_by known) numbered in
    let for = sorted-for c.in_ok-places.places c.args.dictionary.now.value c.deref.result.now numbered c.deref.ensures c.requires.knows c.in_ok-places.ensures in
    record {
      ids = c.in_ok-ids.ensures ∙ ids-by known numbered;
      ascends = λ on. subst IsNonDecreasing c.as_slice.ensures.value (c.ascend-ascending.ensures on);
      knows = subst (λ (d : Dictionary). Knows d (words_in d)) (sym c.in_ok-try_clone.ensures) c.requires.knows;
      places = subst (λ (d : Dictionary). HasPlaces c.in_ok-places.places (words_in d) (λ word. standing_of word docs)) (sym c.in_ok-try_clone.ensures) for.places;
      bits = subst (λ (d : Dictionary). HasBits c.in_ok-frequent.frequent (words_in d) docs) (sym c.in_ok-try_clone.ensures)
          (c.in_ok-frequent.ensures known docs (length-map numbered (doc_by known) ∙ lent-many c.args.docs.now) for);
      short = are-short known numbered c.requires.few;
      few = are-few known numbered c.requires.few;
    }
