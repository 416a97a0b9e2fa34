use Rattle.std.proofs.Common.{◌++◌, ◌∷◌, [], ℕ, List, map, take, sym, ap, ◌∙◌, arith}
use Rattle.std.proofs.lemmas.List.{map_more}
use Rattle.word_table.specs.declared.numbered.NumberedDoc.{NumberedDoc}
use Rattle.word_table.specs.Rows.{lent}
use Rattle.word_table.proofs.PairLemmas.{lent-at, lent-many}
use Rattle.shard_index.proofs.index.ids_of.Goals as goal

pub loop-doc-preserved : goal.loop-doc-preserved
loop-doc-preserved c =
    let docs = c.args.docs.now in
    let k = c.loop-doc.doc-index in
    let doc = c.doc-item.result in
    let f : NumberedDoc → ℕ = λ d. d.id in
    c.in_ok-push.ensures.items
    ∙ (ap (λ (ids : List ℕ). ids ++ doc.now.id ∷ []) c.loop-doc.invariant
    ∙ sym (map_more f (lent docs) k doc.now (omega (arith, c.loop-doc-test.true, lent-many docs))
    ∙ ap (λ (d : NumberedDoc). map f (take k (lent docs)) ++ f d ∷ []) (sym (lent-at docs k doc c.loop-doc-test.true c.doc-item.is))))
