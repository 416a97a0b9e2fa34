use Rattle.std.proofs.Common.{arith, ◌++◌, ◌∷◌, [], ◌||◌, Bool, ℕ, length, map, take, ap, sym, ◌∙◌}
use Rattle.std.specs.List.{count_by, list_any}
use Rattle.std.proofs.lemmas.List.{length-map, map_more, take_all}
use Rattle.std.proofs.lemmas.List.Folds.{list_any_more}
use Rattle.fan_base.specs.declared.doc.Doc.{Doc}
use Rattle.fan_base.specs.declared.word.Word.{Word}
use Rattle.query_grammar.specs.Truth.{is_among}
use Rattle.query_model.specs.Answers.{having}
use Rattle.shard_index.specs.Places.{has_word}
use Rattle.shard_index.specs.Totals.{marked_at}
use Rattle.shard_index.proofs.IndexLemmas.{count-having, many-front}
use Rattle.shard_index.proofs.MarkLemmas.{count-marked, count-none, marked-word, no-marks}
use Rattle.shard_index.proofs.TotalLemmas.{places-within}
use Rattle.shard_index.proofs.index.Index.counts.Goals as goal

pub loop-word-init : goal.loop-word-init
loop-word-init c = record {
  with = λ docs stands. c.new-with.ensures.items;
  marks = λ docs stands. c.in_ok-marks.ensures ∙ no-marks (take c.args.front docs) c.args.front (many-front c.args.self.now docs c.args.front stands c.requires.front);
  any = sym (ap (λ ms. count_by (λ b. b) ms) c.in_ok-marks.ensures ∙ count-none c.args.front);
}

pub mark_at-any-requires : goal.mark_at-any-requires
mark_at-any-requires c =
    let docs = c.requires.docs.0 in
    let stands = c.requires.docs.1 in
    let first = take c.args.front docs in
    let mark : Doc → Bool = λ doc. list_any (λ w. is_among w doc.words) (take c.loop-word.word-index c.args.words.now) in
    places-within (has_word c.word-item.result) first c.places_with-places.result.now (length c.loop-word.marks.items)
    (c.places_with-places.ensures docs stands)
    (ap length (c.loop-word.invariant.marks docs stands) ∙ length-map first mark)

pub loop-word-preserved : goal.loop-word-preserved
loop-word-preserved c =
    let words = c.args.words.now in
    let i = c.loop-word.word-index in
    let word = c.word-item.result in
    record {
      with = λ docs stands.
          let f : Word → ℕ = λ w. length (having w (take c.args.front docs)) in
          let counted = count-having word (take c.args.front docs) c.places_with-places.result.now (c.places_with-places.ensures docs stands) in
          c.in_ok-push.ensures.items
          ∙ ((λ k. c.loop-word.invariant.with docs stands k ++ counted k ∷ [])
          ∙ sym (map_more f words i word c.loop-word-test.true ∙ ap (λ w. map f (take i words) ++ f w ∷ []) (sym c.word-item.is)));
      marks = λ docs stands.
          let first = take c.args.front docs in
          let mark : Doc → Bool = λ doc. list_any (λ w. is_among w doc.words) (take i words) in
          let at = c.places_with-places.ensures docs stands in
          c.mark_at-any.ensures.marks
          ∙ ((λ k. marked_at (c.loop-word.invariant.marks docs stands k) (at k))
          ∙ (marked-word (has_word word) mark first
          ∙ (λ k. map (λ doc. sym (list_any_more (λ w. is_among w doc.words) words i word c.loop-word-test.true
          ∙ ap (λ w. list_any (λ v. is_among v doc.words) (take i words) || is_among w doc.words) (sym c.word-item.is)) k) first)));
      any = omega (arith, c.mark_at-any.ensures.new, c.loop-word.invariant.any);
    }

pub returns : goal.returns
returns c = λ docs stands.
    let words = c.args.words.now in
    let first = take c.args.front docs in
    let whole = take_all c.loop-word.word-index words c.loop-word-test.false in
    let with = c.from_vec.ensures ∙ (c.loop-word.invariant.with docs stands ∙ ap (λ ws. map (λ w. length (having w first)) ws) whole) in
    let any = c.loop-word.invariant.any ∙ (ap (λ ms. count_by (λ b. b) ms) (c.loop-word.invariant.marks docs stands)
    ∙ (count-marked (λ doc. list_any (λ w. is_among w doc.words) (take c.loop-word.word-index words)) first
    ∙ ap (λ ws. count_by (λ doc. list_any (λ w. is_among w doc.words) ws) first) whole)) in
    λ k. record { with = with k; any = any k }
