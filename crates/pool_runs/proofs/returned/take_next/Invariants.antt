use Rattle.std.proofs.Common.{◌≡◌, ◌≤◌, length}
use Rattle.pool_runs.specs.Returning.{back_from}
use Rattle.pool_runs.proofs.returned.take_next.Given as goal

abbrev pub invariant-loop-rests : goal.invariant-loop-rests
invariant-loop-rests g l = record {
  same : back_from 0 l.rests.items ≡ back_from 0 l.initial.rests.items;
  fewer : length l.rests.items ≤ length l.initial.rests.items;
}

abbrev pub decreases-loop-rests : goal.decreases-loop-rests
decreases-loop-rests g l = length l.rests.items
