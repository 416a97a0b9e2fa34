use Rattle.std.proofs.Common.{◌≡◌, ◌+◌, ◌*◌, ◌++◌, ◌∷◌, ◌≤◌, [], ℕ, List, length, take, sym, ap, subst, ◌∙◌, arith}
use Rattle.std.proofs.lemmas.List.{take_more}
use Rattle.fan_base.specs.declared.doc.Doc.{Doc}
use Rattle.word_table.specs.Numbers.{words_in}
use Rattle.shard_index.proofs.TableLemmas.{IsPartBy, part-push}
use Rattle.shard_tests.proofs.tables.table_of.Goals as goal

pub loop-doc-preserved : goal.loop-doc-preserved
loop-doc-preserved c =
    let docs = c.args.docs.now in
    let k = c.loop-doc.doc-index in
    let doc = c.doc-item.result in
    let low = c.loop-doc-test.true in
    let known = words_in c.loop-doc.dictionary in
    let short : length doc.words ≤ 1000 = omega (arith, c.requires.short k doc low, ap (λ (d : Doc). length d.words) c.doc-item.is) in
    let longer : take (k + 1) docs ≡ take k docs ++ doc ∷ [] = take_more docs k doc low ∙ ap (λ (d : Doc). take k docs ++ d ∷ []) (sym c.doc-item.is) in
    let most : k * 1000 + 1000 ≡ (k + 1) * 1000 = omega arith in
    subst (λ (n : ℕ). IsPartBy c.number_doc.new.self c.push.new.self.items (take (k + 1) docs) n) most
    (subst (λ (ds : List Doc). IsPartBy c.number_doc.new.self c.push.new.self.items ds (k * 1000 + 1000)) (sym longer)
    (part-push c.loop-doc.dictionary c.number_doc.new.self c.loop-doc.numbered.items c.push.new.self.items (take k docs) c.in_ok-one.one doc (k * 1000) c.numbers_stay.ensures.more c.numbers_stay.ensures.few c.loop-doc.invariant
    (c.in_ok-one.ensures.knows known c.loop-doc.invariant.knows) (c.in_ok-one.ensures.numbered known c.loop-doc.invariant.knows) c.in_ok-push.ensures.items short))
