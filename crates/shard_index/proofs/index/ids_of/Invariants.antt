use Rattle.std.proofs.Common.{◌≡◌, map, take}
use Rattle.word_table.specs.Rows.{lent}
use Rattle.shard_index.proofs.index.ids_of.Given as goal

abbrev pub invariant-loop-doc : goal.invariant-loop-doc
invariant-loop-doc l = l.ids.items ≡ map (λ doc. doc.id) (take l.doc-index (lent l.docs))
