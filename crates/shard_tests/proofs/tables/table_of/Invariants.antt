use Rattle.std.proofs.Common.{◌*◌, take}
use Rattle.shard_index.proofs.TableLemmas.{IsPartBy}
use Rattle.shard_tests.proofs.tables.table_of.Given as goal

abbrev pub invariant-loop-doc : goal.invariant-loop-doc
invariant-loop-doc l = IsPartBy l.dictionary l.numbered.items (take l.doc-index l.docs) (l.doc-index * 1000)
