use Rattle.std.proofs.Common.{◌≡◌, ℕ, List, map, take}
use Rattle.fan_base.specs.declared.word.Word.{Word}
use Rattle.query_model.specs.Parts.{part_of}
use Rattle.word_table.specs.Numbered.{doc_by}
use Rattle.word_table.specs.Rows.{AreBelow, lent}
use Rattle.shard_index.proofs.part.picked.Given as goal

abbrev pub invariant-loop-place : goal.invariant-loop-place
invariant-loop-place l = record {
  docs : (known : List Word) → map (doc_by known) (lent l.picked.items) ≡ part_of (take l.place (map (doc_by known) l.docs)) l.shards l.no;
  numbers : (count : ℕ) → AreBelow count l.docs → AreBelow count (lent l.picked.items);
}
