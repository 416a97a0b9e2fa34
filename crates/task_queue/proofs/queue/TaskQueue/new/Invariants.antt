use Rattle.std.proofs.Common.{◌≡◌}
use Rattle.crossbeam_queue.specs.SegTies.{IsSegPassOf}
use Rattle.task_queue.specs.Views.{making}
use Rattle.task_queue.proofs.queue.TaskQueue.new.Given as goal

abbrev pub invariant-loop : goal.invariant-loop
invariant-loop g l = record {
  pass_of : IsSegPassOf l.line l.pass × (l.pass.id ≡ 0);
  counted : l.pass.me.view.client ≡ making l.counter l.counter 0 0;
}
