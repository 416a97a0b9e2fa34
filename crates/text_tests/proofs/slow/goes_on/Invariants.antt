use Rattle.std.proofs.Common.{◌≡◌, ℕ, ◌<◌, None}
use Rattle.query_grammar.specs.Grammar.{Kind}
use Rattle.text_tests.specs.Slow.{Finds, closed}
use Rattle.text_tests.proofs.slow.goes_on.Given as goal

abbrev pub invariant-loop : goal.invariant-loop
invariant-loop l = record {
  closed_so : l.whole.items ≡ closed l.tokens l.fn.word l.counter;
  none_before : (k : ℕ) → k < l.counter → Finds Kind.either (closed l.tokens l.fn.word k) None;
}
