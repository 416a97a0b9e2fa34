use Rattle.std.proofs.Common.{◌≡◌, ◌+◌, ◌≤◌, ◌++◌, length, All, vec_capacity}
use Rattle.prio_pool.specs.Made.{in_places, IsPlace}
use Rattle.prio_pool.proofs.listed.adder_passes.Given as goal

abbrev pub invariant-loop-adders : goal.invariant-loop-adders
invariant-loop-adders g l = record {
  all : in_places l.list.items ++ l.places ≡ l.fn.places;
  parts : l.seat ≡ record { mark = l.mark.mark; parts = length l.places };
  each : All (IsPlace l.mark.mark) l.places;
  room : length l.list.items + length l.places ≤ vec_capacity l.list;
}

abbrev pub decreases-loop-adders : goal.decreases-loop-adders
decreases-loop-adders g l = length l.places
