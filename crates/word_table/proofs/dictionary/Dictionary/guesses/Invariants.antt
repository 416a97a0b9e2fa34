use Rattle.std.proofs.Common.{◌≡◌, length}
use Rattle.word_table.proofs.dictionary.Dictionary.guesses.Given as goal

abbrev pub invariant-loop-i : goal.invariant-loop-i
invariant-loop-i l = length l.guesses.items ≡ length l.words
