use Rattle.std.proofs.Common.{◌≡◌, ◌++◌, take}
use Rattle.query_text.specs.Writing.{behind_spaces}
use Rattle.query_text.proofs.write.push_words.Given as goal

abbrev pub invariant-loop-word : goal.invariant-loop-word
invariant-loop-word l = l.text.items ≡ l.initial.text.items ++ behind_spaces (take l.word-index l.words)
