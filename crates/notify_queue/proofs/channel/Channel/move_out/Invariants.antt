use Rattle.std.proofs.Common.{◌≡◌, ◌+◌, ◌≤◌, List, length, vec_capacity}
use Rattle.crossbeam_queue.specs.SegBatches.{Holds}
use Rattle.notify_queue.specs.declared.stamp.Stamped.{Stamped}
use Rattle.notify_queue.specs.Passes.{IsFirstPassOf, known_by}
use Rattle.notify_queue.proofs.Batches.{MovedOut}
use Rattle.notify_queue.proofs.channel.Channel.move_out.Given as goal

abbrev pub invariant-loop : goal.invariant-loop
invariant-loop g l = record {
  pass_of : IsFirstPassOf l.self.line l.pass;
  same : known_by l.pass ≡ known_by l.initial.pass;
  capacity : vec_capacity l.initial.got ≤ vec_capacity l.got;
  room : length l.initial.got.items + l.count ≤ vec_capacity l.initial.got;
  moved : (xs : List (Stamped g.row.M.Denot)) → Holds l.self.line l.initial.pass l.initial.batch xs → MovedOut l.self.line l.pass l.batch l.initial.got.items l.got.items xs l.counter;
}
