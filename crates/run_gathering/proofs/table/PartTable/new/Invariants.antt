use Rattle.std.proofs.Common.{◌≡◌, ◌-◌, ◌≤◌, length, vec_capacity}
use Rattle.std.specs.List.{All}
use Rattle.run_gathering.specs.declared.table.Awaited.TheVariants as awaited
use Rattle.run_gathering.proofs.table.PartTable.new.Given as goal

abbrev pub invariant-making : goal.invariant-making
invariant-making g l = All (λ it. it ≡ awaited.Nothing) l.queries.items × (length l.queries.items ≤ l.count) × (vec_capacity l.queries ≡ l.count)

abbrev pub decreases-making : goal.decreases-making
decreases-making g l = l.count - length l.queries.items
