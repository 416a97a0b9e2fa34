use Rattle.std.proofs.Common.{◌≡◌, map, take}
use Rattle.word_table.specs.Numbered.{word_at}
use Rattle.word_table.specs.Numbers.{words_in}
use Rattle.word_table.proofs.dictionary.Dictionary.doc_by.Given as goal

abbrev pub invariant-loop-number : goal.invariant-loop-number
invariant-loop-number l = l.words.items ≡ map (word_at (words_in l.self)) (take l.number-index l.numbered.words)
