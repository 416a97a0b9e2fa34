use Rattle.std.proofs.Common.{◌≡◌, length, vec_capacity}
use Rattle.run_homes.proofs.homes.keys_of.Given as goal

abbrev pub invariant-loop-home : goal.invariant-loop-home
invariant-loop-home g l = (length l.keys.items ≡ l.home-index) × (vec_capacity l.keys ≡ length l.fn.homes)
