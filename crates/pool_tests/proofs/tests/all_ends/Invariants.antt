use Rattle.std.proofs.Common.{◌≡◌, ◌+◌, ◌≤◌, Some, All, Contains, length, map, vec_capacity}
use Rattle.pool_tests.proofs.tests.all_ends.Given as goal

abbrev pub invariant-loop-slot : goal.invariant-loop-slot
invariant-loop-slot g l = record {
  slots : All (Contains l.fn.slots.items) l.slots.items;
  ends : All (λ e. Contains (map (λ s. s.end) l.fn.slots.items) (Some e)) l.ends.items;
  count : length l.ends.items + length l.slots.items ≡ length l.fn.slots.items;
  room : length l.ends.items + length l.slots.items ≤ vec_capacity l.ends;
}

abbrev pub decreases-loop-slot : goal.decreases-loop-slot
decreases-loop-slot g l = goal.left-loop-slot g l
