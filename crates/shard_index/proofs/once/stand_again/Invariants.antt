use Rattle.std.proofs.Common.{◌≡◌, ◌++◌, length, drop}
use Rattle.shard_index.specs.Counting.{stand_again}
use Rattle.shard_index.proofs.once.stand_again.Given as goal

abbrev pub invariant-loop-i : goal.invariant-loop-i
invariant-loop-i l = record {
  many : length l.again.items ≡ l.i;
  told : l.again.items ++ stand_again (drop l.i l.words) ≡ stand_again l.words;
}
