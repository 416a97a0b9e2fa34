use Rattle.std.proofs.Common.{◌≡◌, ◌-◌, ◌≤◌, List, length}
use Rattle.fan_base.specs.declared.doc.Doc.{Doc}
use Rattle.word_table.specs.Tables.{IsTableOf}
use Rattle.query_parts.specs.Parts.{StandFrom}
use Rattle.query_parts.proofs.building.build_shards_beside.Given as goal

abbrev pub invariant-first : goal.invariant-first
invariant-first g l = record {
  within : l.first ≤ l.shards;
  many : length l.all.items ≡ l.first;
  stand : (docs : List Doc) → IsTableOf l.table docs → StandFrom l.all.items docs l.shards 0;
}

abbrev pub decreases-first : goal.decreases-first
decreases-first g l = l.shards - l.first
