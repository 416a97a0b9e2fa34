use Rattle.std.proofs.Common.{◌<◌, ℕ, ◌+◌, ◌*◌, length, None}
use Rattle.text_tests.specs.Slow.{FindsBeside, FindsBar}
use Rattle.text_tests.proofs.slow.+slow.Given as goal

abbrev pub decreases-fact_of : goal.decreases-fact_of
decreases-fact_of l = 5 * length l.tokens.now

abbrev pub decreases-beside_at : goal.decreases-beside_at
decreases-beside_at l = 5 * length l.tokens.now + 1

abbrev pub decreases-both_of : goal.decreases-both_of
decreases-both_of l = 5 * length l.tokens.now + 2

abbrev pub decreases-bar_at : goal.decreases-bar_at
decreases-bar_at l = 5 * length l.tokens.now + 3

abbrev pub decreases-either_of : goal.decreases-either_of
decreases-either_of l = 5 * length l.tokens.now + 4

abbrev pub invariant-both_of-loop-place : goal.invariant-both_of-loop-place
invariant-both_of-loop-place l = (k : ℕ) → 0 < k → k < l.place → FindsBeside k l.tokens None

abbrev pub invariant-either_of-loop-place : goal.invariant-either_of-loop-place
invariant-either_of-loop-place l = (k : ℕ) → k < l.place → FindsBar k l.tokens None
