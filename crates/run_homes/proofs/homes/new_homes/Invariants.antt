use Rattle.std.proofs.Common.{◌≡◌, ◌-◌, ◌≤◌, false, length, vec_capacity}
use Rattle.std.specs.List.{All}
use Rattle.core_word.specs.Seen.{SeenHome}
use Rattle.run_homes.proofs.homes.new_homes.Given as goal

abbrev pub invariant-making : goal.invariant-making
invariant-making g l = All (λ (home : SeenHome). home.taken ≡ false) l.homes.items × (length l.homes.items ≤ l.count) × (vec_capacity l.homes ≡ l.count)

abbrev pub decreases-making : goal.decreases-making
decreases-making g l = l.count - length l.homes.items
