use Rattle.std.proofs.Common.{◌≡◌, ◌+◌, length}
use Rattle.pool_runs.specs.Running.{DrainedSoFar}
use Rattle.pool_runs.proofs.returned.drain.Given as goal

abbrev pub invariant-loop-next : goal.invariant-loop-next
invariant-loop-next g l = record {
  so_far : DrainedSoFar g.J.Headed.head g.J.Job.runs l.initial.returned l.returned l.records l.initial.world l.world;
  count : length l.records + length l.returned ≡ length l.initial.returned;
}

abbrev pub decreases-loop-next : goal.decreases-loop-next
decreases-loop-next g l = length l.returned
