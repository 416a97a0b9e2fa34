use Rattle.std.proofs.Common.{◌≡◌, length, vec_capacity}
use Rattle.query_timers.proofs.interrupt.pairs_of.Given as goal

abbrev pub invariant-loop-home : goal.invariant-loop-home
invariant-loop-home l = (length l.pairs.items ≡ l.home-index) × (vec_capacity l.pairs ≡ length l.fn.homes)
