use Rattle.std.proofs.Common.{◌≡◌, ◌+◌, ◌*◌, ◌≤◌, ℕ, List, length, take, sym, ap, subst, arith}
use Rattle.fan_base.specs.declared.doc.Doc.{Doc}
use Rattle.query_model.specs.Parts.{part_of}
use Rattle.word_table.specs.declared.dictionary.Dictionary.{Dictionary}
use Rattle.word_table.specs.declared.numbered.NumberedDoc.{NumberedDoc}
use Rattle.word_table.specs.Numbers.{words_in}
use Rattle.shard_index.proofs.PartLemmas.{passed, taken}
use Rattle.shard_index.proofs.TableLemmas.{IsPartBy, part-push}
use Rattle.shard_index.proofs.part.table_of_part.Goals as goal
use Rattle.shard_index.proofs.part.table_of_part.Goals.{then-place-shards+in_ok-numbered+in_ok-push, else-place-shards}

pub loop-place-preserved : goal.loop-place-preserved
loop-place-preserved c =
    let docs = c.args.docs.now in
    let place = c.loop-place.place in
    let doc = c.index-docs-place.result in
    let low = c.loop-place-test.true in
    let before = part_of (take place docs) c.args.shards c.args.no in
    let after = part_of (take (place + 1) docs) c.args.shards c.args.no in
    let most : place * 1000 + 1000 ≡ (place + 1) * 1000 = omega arith in
    elim c.if-place-shards.branch [
      | then-place-shards+in_ok-numbered+in_ok-push w ↦
          let short : length doc.words ≤ 1000 = omega (arith, c.requires.short place doc low, ap (λ (d : Doc). length d.words) c.index-docs-place.is) in
          let known = words_in c.loop-place.dictionary in
          let pushed = part-push c.loop-place.dictionary w.number_doc.new.self c.loop-place.part.items w.push.new.self.items before w.in_ok-numbered.numbered doc (place * 1000) c.numbers_stay.ensures.more c.numbers_stay.ensures.few
          c.loop-place.invariant (w.in_ok-numbered.ensures.knows known c.loop-place.invariant.knows) (w.in_ok-numbered.ensures.numbered known c.loop-place.invariant.knows) w.in_ok-push.ensures.items short in
          subst (λ (d : Dictionary). IsPartBy d c.if-place-shards.part.items after ((place + 1) * 1000)) (sym w.dictionary-is)
          (subst (λ (ds : List NumberedDoc). IsPartBy w.number_doc.new.self ds after ((place + 1) * 1000)) (sym (λ i. (w.part-is i).items))
          (subst (λ (n : ℕ). IsPartBy w.number_doc.new.self w.push.new.self.items after n) most
          (subst (λ (ds : List Doc). IsPartBy w.number_doc.new.self w.push.new.self.items ds (place * 1000 + 1000)) (sym (taken docs c.args.shards c.args.no place doc low c.index-docs-place.is w.if-place-shards.true)) pushed)))
      | else-place-shards w ↦
          subst (λ (d : Dictionary). IsPartBy d c.if-place-shards.part.items after ((place + 1) * 1000)) (sym w.dictionary-is)
          (subst (λ (ds : List NumberedDoc). IsPartBy c.loop-place.dictionary ds after ((place + 1) * 1000)) (sym (λ i. (w.part-is i).items))
          (subst (λ (ds : List Doc). IsPartBy c.loop-place.dictionary c.loop-place.part.items ds ((place + 1) * 1000)) (sym (passed docs c.args.shards c.args.no place doc low c.index-docs-place.is w.if-place-shards.false))
          (record {
            knows = c.loop-place.invariant.knows;
            numbers = c.loop-place.invariant.numbers;
            docs_are = c.loop-place.invariant.docs_are;
            few = omega (arith, c.loop-place.invariant.few);
          })))
    ]
