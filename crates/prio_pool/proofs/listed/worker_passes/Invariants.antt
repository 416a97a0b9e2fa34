use Rattle.std.proofs.Common.{◌≡◌, ◌+◌, ◌≤◌, ◌++◌, length, map, All, vec_capacity}
use Rattle.prio_pool.specs.Made.{worker_seen}
use Rattle.prio_pool.specs.Passes.{TookNothing}
use Rattle.prio_pool.specs.Sleeping.{parkers_of, bits_of}
use Rattle.prio_pool.proofs.listed.worker_passes.Given as goal

abbrev pub invariant-loop-takers : goal.invariant-loop-takers
invariant-loop-takers g l = record {
  all : l.list.items ++ map worker_seen l.takers ≡ map worker_seen l.fn.takers;
  each : All TookNothing l.takers;
  parkers : parkers_of l.parkers ≡ bits_of l.takers;
  room : length l.list.items + length l.takers ≤ vec_capacity l.list;
}

abbrev pub decreases-loop-takers : goal.decreases-loop-takers
decreases-loop-takers g l = length l.takers
