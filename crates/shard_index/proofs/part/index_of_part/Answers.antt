use Rattle.std.proofs.Common.{List, length, map, sym, ap, subst, ◌∙◌}
use Rattle.fan_base.specs.declared.doc.Doc.{Doc}
use Rattle.query_model.specs.Parts.{part_of}
use Rattle.word_table.specs.declared.numbered.NumberedDoc.{NumberedDoc}
use Rattle.word_table.specs.Numbered.{doc_by}
use Rattle.word_table.specs.Numbers.{words_in}
use Rattle.word_table.specs.Rows.{AreBelow, lent}
use Rattle.shard_index.proofs.PartLemmas.{part-few}
use Rattle.shard_index.proofs.TableLemmas.{picked-few}
use Rattle.shard_index.proofs.part.index_of_part.Goals as goal

pub of-requires-clause-numbers : goal.of-requires-clause-numbers
of-requires-clause-numbers c =
    let count = length (words_in c.args.table.now.dictionary.value) in
    rw c.as_slice-2.ensures.value
    (c.in_ok-docs.ensures.numbers count (subst (λ (ds : List NumberedDoc). AreBelow count ds) (sym c.as_slice.ensures.value) c.requires.table.1.numbers))

pub of-requires-clause-few : goal.of-requires-clause-few
of-requires-clause-few c =
    let known = words_in c.args.table.now.dictionary.value in
    let docs = c.requires.table.0 in
    rw c.as_slice-2.ensures.value
    (picked-few known (lent c.in_ok-docs.docs.items) docs c.requires.table.2 c.args.shards c.args.no (part-few c.args.shards c.args.no docs) c.requires.table.3
    (c.in_ok-docs.ensures.docs known
    ∙ ap (λ (ds : List Doc). part_of ds c.args.shards c.args.no) (ap (λ (ds : List NumberedDoc). map (doc_by known) ds) c.as_slice.ensures.value ∙ c.requires.table.1.docs_are)))
