use Rattle.std.proofs.Common.{◌*◌, take}
use Rattle.query_model.specs.Parts.{part_of}
use Rattle.shard_index.proofs.TableLemmas.{IsPartBy}
use Rattle.shard_index.proofs.part.table_of_part.Given as goal

abbrev pub invariant-loop-place : goal.invariant-loop-place
invariant-loop-place l = IsPartBy l.dictionary l.part.items (part_of (take l.place l.docs) l.shards l.no) (l.place * 1000)
