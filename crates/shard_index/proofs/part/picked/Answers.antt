use Rattle.std.proofs.Common.{◌≡◌, List, map, sym, ap, subst, ◌∙◌}
use Rattle.word_table.specs.declared.numbered.NumberedDoc.{NumberedDoc}
use Rattle.word_table.specs.Numbered.{doc_by}
use Rattle.word_table.specs.Rows.{AreBelow, lent}
use Rattle.shard_index.proofs.TableLemmas.{lent-push, passes-docs, picks-docs, picks-numbers}
use Rattle.shard_index.proofs.part.picked.Goals as goal
use Rattle.shard_index.proofs.part.picked.Goals.{then-place-shards+in_ok-push, else-place-shards}

pub loop-place-preserved : goal.loop-place-preserved
loop-place-preserved c =
    let docs = c.args.docs.now in
    let place = c.loop-place.place in
    let doc = c.index-docs-place.result in
    let low = c.loop-place-test.true in
    let old = c.loop-place.picked.items in
    elim c.if-place-shards.branch [
      | then-place-shards+in_ok-push w ↦
          let pushed : lent c.if-place-shards.picked.items ≡ _ = lent-push old c.if-place-shards.picked.items _ ((λ i. (w.picked-is i).items) ∙ w.in_ok-push.ensures.items) in
          record {
            docs = λ known. picks-docs known (lent old) (lent c.if-place-shards.picked.items) docs c.args.shards c.args.no place doc pushed low c.index-docs-place.is w.if-place-shards.true (c.loop-place.invariant.docs known);
            numbers = λ count all. picks-numbers count (lent old) (lent c.if-place-shards.picked.items) docs place doc pushed low c.index-docs-place.is all (c.loop-place.invariant.numbers count all);
          }
      | else-place-shards w ↦
          let same : lent c.if-place-shards.picked.items ≡ lent old = (λ i. lent ((w.picked-is i).items)) in
          record {
            docs = λ known. ap (λ (ds : List NumberedDoc). map (doc_by known) ds) same
                ∙ passes-docs known (lent old) docs c.args.shards c.args.no place doc low c.index-docs-place.is w.if-place-shards.false (c.loop-place.invariant.docs known);
            numbers = λ count all. subst (λ (ds : List NumberedDoc). AreBelow count ds) (sym same) (c.loop-place.invariant.numbers count all);
          }
    ]
