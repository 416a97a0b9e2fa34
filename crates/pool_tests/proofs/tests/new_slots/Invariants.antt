use Rattle.std.proofs.Common.{◌≡◌, ◌+◌, ◌≤◌, None, All, Contains, IfSome, length, vec_capacity}
use Rattle.pool_tests.proofs.tests.new_slots.Given as goal

abbrev pub invariant-loop-pass : goal.invariant-loop-pass
invariant-loop-pass g l = record {
  passes : All (Contains l.fn.passes.items) l.passes.items;
  slots : All (λ s. IfSome s.pass (Contains l.fn.passes.items)) l.slots.items;
  ends : All (λ s. s.end ≡ None) l.slots.items;
  count : length l.slots.items + length l.passes.items ≡ length l.fn.passes.items;
  room : length l.slots.items + length l.passes.items ≤ vec_capacity l.slots;
}

abbrev pub decreases-loop-pass : goal.decreases-loop-pass
decreases-loop-pass g l = goal.left-loop-pass g l
