use Rattle.std.proofs.Common.{◌≡◌, ◌<◌, ℕ, get_or, true}
use Rattle.word_table.proofs.dictionary.agree.Given as goal

abbrev pub invariant-loop-i : goal.invariant-loop-i
invariant-loop-i l = l.same ≡ true → (k : ℕ) → k < l.i → get_or l.one k 0 ≡ get_or l.other k 0
