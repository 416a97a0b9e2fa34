use Rattle.std.proofs.Common.{List, ℕ, ◌+◌, ◌≡◌, false, length, map}
use Rattle.fan_model.specs.Tasks.{front_exec}
use Rattle.run_notes.specs.Told.{run_of_direct}
use Rattle.run_tasks.specs.Worlds.{Follows, MadeFor, told_of}
use Rattle.run_front.specs.Fronts.{AreRunsTo, IsFrontOf, TellRunsTo}
use Rattle.fan_parts.specs.declared.jobs.PrintJob.{PrintJob}
use Rattle.run_front.specs.Posted.{HasPosted}
use Rattle.run_front.proofs.late.late_turns.Given as goal

abbrev pub invariant-loop-place : goal.invariant-loop-place
invariant-loop-place g l = record {
  runs : l.front.world.refused ≡ false
      → AreRunsTo g.N.RunName.asked (front_exec g.N.RunName.asked.bases) l.start l.place (map run_of_direct l.initial.direct) (map run_of_direct l.direct);
  told : TellRunsTo g.N.RunName.asked (front_exec g.N.RunName.asked.bases) l.start l.place (map run_of_direct l.initial.direct) l.direct;
  follows : Follows l.initial.front.world l.front.world;
  made : (n : ℕ) → MadeFor (n + length l.initial.direct) l.initial.front.world → MadeFor (n + length l.direct) l.front.world;
  front : IsFrontOf g.N.RunName.asked l.front;
  printer : told_of l.front.printer ≡ told_of l.initial.front.printer;
  posted : (first : List (PrintJob g.row.N.Denot)) → HasPosted g.N.RunName.asked l.start first l.initial.front.printer
      → HasPosted g.N.RunName.asked l.place first l.front.printer;
}
