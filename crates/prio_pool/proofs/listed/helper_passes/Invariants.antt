use Rattle.std.proofs.Common.{◌≡◌, ◌+◌, ◌≤◌, ◌++◌, length, map, All, vec_capacity}
use Rattle.prio_pool.specs.Made.{helper_seen}
use Rattle.prio_pool.specs.Passes.{TookNothing}
use Rattle.prio_pool.proofs.listed.helper_passes.Given as goal

abbrev pub invariant-loop-takers : goal.invariant-loop-takers
invariant-loop-takers g l = record {
  all : l.list.items ++ map helper_seen l.takers ≡ map helper_seen l.fn.takers;
  each : All TookNothing l.takers;
  room : length l.list.items + length l.takers ≤ vec_capacity l.list;
}

abbrev pub decreases-loop-takers : goal.decreases-loop-takers
decreases-loop-takers g l = length l.takers
