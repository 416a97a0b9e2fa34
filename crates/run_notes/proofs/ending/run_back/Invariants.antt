use Rattle.std.proofs.Common.{◌≡◌, ◌+◌, ◌<◌, true, false, length}
use Rattle.run_notes.specs.Accounts.{HaveRunSoFar, RanBackSoFar}
use Rattle.run_notes.proofs.ending.run_back.Given as goal

abbrev pub invariant-tasks : goal.invariant-tasks
invariant-tasks g l = record {
  run : HaveRunSoFar g.J.Headed.head g.J.Job.runs l.initial.returned l.returned l.records l.initial.world l.world;
  so_far : l.missed ≡ false → RanBackSoFar g.J.Headed.head g.J.Job.runs l.initial.returned l.returned l.records l.initial.world l.world;
  fewer : l.missed ≡ true → length l.records + length l.returned < length l.initial.returned;
  all : l.missed ≡ false → length l.records + length l.returned ≡ length l.initial.returned;
}

abbrev pub decreases-tasks : goal.decreases-tasks
decreases-tasks g l = length l.returned
