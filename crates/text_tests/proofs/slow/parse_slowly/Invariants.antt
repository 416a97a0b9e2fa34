use Rattle.std.proofs.Common.{take}
use Rattle.query_grammar.specs.Grammar.{CanGoOn}
use Rattle.text_tests.proofs.slow.parse_slowly.Given as goal

abbrev pub invariant-loop-place : goal.invariant-loop-place
invariant-loop-place l = CanGoOn (take l.place l.tokens)
