use Rattle.std.proofs.Common.{◌≡◌, ◌-◌, length, drop}
use Rattle.std.specs.Ordering.{nat_cmp}
use Rattle.std.specs.Cmp.Lexicographic.{slice_cmp}
use Rattle.std.specs.BTreeSet as tree
use Rattle.fan_base.specs.declared.word.Word.{Word}
use Rattle.shard_index.specs.Counting.{stand_again}
use Rattle.query_grammar.specs.Truth.{is_among}
use Rattle.shard_index.proofs.once.told_by_set.Given as goal

abbrev pub invariant-loop-done : goal.invariant-loop-done
invariant-loop-done l = record {
  many : length l.again.items ≡ length l.words;
  told : drop (length l.words - l.done) l.again.items ≡ stand_again (drop (length l.words - l.done) l.words);
  seen : (word : Word) → tree.contains (slice_cmp nat_cmp) l.seen word ≡ is_among word (drop (length l.words - l.done) l.words);
}
