use Rattle.std.proofs.Common.{◌≡◌, ◌-◌, ◌≤◌, false, length, vec_capacity}
use Rattle.std.specs.List.{All}
use Rattle.core_interrupt.specs.Seen.{HomeSeen}
use Rattle.query_timers.proofs.interrupt.cancel_homes.Given as goal

abbrev pub invariant-making : goal.invariant-making
invariant-making l = All (λ (home : HomeSeen). home.taken ≡ false) l.homes.items × (length l.homes.items ≤ l.count) × (vec_capacity l.homes ≡ l.count)

abbrev pub decreases-making : goal.decreases-making
decreases-making l = l.count - length l.homes.items
