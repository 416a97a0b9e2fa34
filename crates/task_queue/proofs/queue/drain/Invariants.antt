use Rattle.std.proofs.Common.{◌≡◌, map, reverse}
use Rattle.crossbeam_queue.specs.SegTies.{IsSegPassOf}
use Rattle.task_queue.specs.Views.{gathered, entry_of}
use Rattle.task_queue.proofs.queue.drain.Given as goal

abbrev pub invariant-loop : goal.invariant-loop
invariant-loop g l = record {
  pass_of : IsSegPassOf l.line l.pass;
  popped : l.pass.me.view.client ≡ gathered l.initial.pass.me.view.client.whole l.initial.pass.me.view.client.whole l.initial.pass.me.view.client.added l.initial.pass.me.view.client.taken (map (entry_of g.J.Headed.head) (reverse l.packets));
}
