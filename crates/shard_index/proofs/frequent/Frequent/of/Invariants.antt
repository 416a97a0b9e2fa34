use Rattle.std.proofs.Common.{◌≡◌, List, length, map}
use Rattle.fan_base.specs.declared.doc.Doc.{Doc}
use Rattle.fan_base.specs.declared.word.Word.{Word}
use Rattle.shard_index.specs.Bits.{AreSortedFor, StandBeside}
use Rattle.shard_index.proofs.frequent.Frequent.of.Given as goal

abbrev pub invariant-loop-at : goal.invariant-loop-at
invariant-loop-at l = (known : List Word) (docs : List Doc) → length docs ≡ l.count → AreSortedFor l.sorted known docs
    → StandBeside l.numbers.items (map (λ bits. bits.items) l.bits.items) known docs
