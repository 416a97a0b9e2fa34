use Rattle.std.proofs.Common.{◌≡◌, length}
use Rattle.collect_ops.proofs.any_value.Kept+AnyValueDesk+T+E.next.Given as goal

abbrev pub invariant-loop : goal.invariant-loop
invariant-loop g l = record { end : l.self.end ≡ l.initial.self.end }

abbrev pub decreases-loop : goal.decreases-loop
decreases-loop g l = length l.self.outcomes
