use Rattle.std.proofs.Common.{List, ◌≡◌, ◌≤◌, ◌*◌, [], length, map}
use Rattle.fan_model.specs.Tasks.{pool_exec}
use Rattle.pool_model.specs.Passes.{adds_of}
use Rattle.query_tasks.specs.Starting.{HasHelped}
use Rattle.run_notes.specs.Told.{run_of_add}
use Rattle.run_tasks.specs.Worlds.{MadeFor, told_of}
use Rattle.run_front.specs.Fronts.{AreRunsTo, IsFrontOf}
use Rattle.fan_parts.specs.declared.jobs.PrintJob.{PrintJob}
use Rattle.run_front.specs.Posted.{HasPosted}
use Rattle.run_front.proofs.early.early_turns.Given as goal

abbrev pub invariant-loop-place : goal.invariant-loop-place
invariant-loop-place g l = record {
  runs : AreRunsTo g.N.RunName.asked pool_exec 0 l.place [] (map run_of_add (adds_of l.adder));
  few : length (adds_of l.adder) ≤ 64 * l.place;
  pool : l.adder.pool ≡ l.initial.adder.pool;
  number : l.adder.number ≡ l.initial.adder.number;
  helped : HasHelped l.initial.front.world l.initial.helper l.front.world l.helper;
  made : MadeFor (length (adds_of l.initial.adder)) l.initial.front.world → MadeFor (length (adds_of l.adder)) l.front.world;
  front : IsFrontOf g.N.RunName.asked l.front;
  printer : told_of l.front.printer ≡ told_of l.initial.front.printer;
  posted : (first : List (PrintJob g.row.N.Denot)) → HasPosted g.N.RunName.asked 0 first l.initial.front.printer
      → HasPosted g.N.RunName.asked l.place first l.front.printer;
}
