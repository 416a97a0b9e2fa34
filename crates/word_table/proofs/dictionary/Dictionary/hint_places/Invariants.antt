use Rattle.std.proofs.Common.{◌≡◌, length}
use Rattle.word_table.proofs.dictionary.Dictionary.hint_places.Given as goal

abbrev pub invariant-loop-word : goal.invariant-loop-word
invariant-loop-word l = length l.places.items ≡ l.word-index
