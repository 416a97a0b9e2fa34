use Rattle.std.proofs.Common.{◌≡◌, [], length}
use Rattle.run_printing.proofs.stage.spend_rest.Given as goal

abbrev pub invariant-jobs : goal.invariant-jobs
invariant-jobs g l = record {
  none : l.initial.rest.jobs ≡ [] → (l.rest.jobs ≡ []) × (l.tally ≡ l.initial.tally);
}

abbrev pub decreases-jobs : goal.decreases-jobs
decreases-jobs g l = length l.rest.jobs
