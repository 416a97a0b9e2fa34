use Rattle.std.proofs.Common.{◌≡◌, ◌<◌, ◌++◌, ℕ, codes, get_or, length}
use Rattle.std.specs.Fmt.{decimal}
use Rattle.fan_base.specs.declared.word.Word.{Word}
use Rattle.query_gen.proofs.draws.all_words.Given as goal

abbrev pub invariant-loop-number : goal.invariant-loop-number
invariant-loop-number l = record {
  many : length l.all.items ≡ l.number;
  each : (number : ℕ) (other : Word) → number < l.number → get_or l.all.items number other ≡ codes "w" ++ decimal number;
}
