use Rattle.std.proofs.Common.{◌≤◌, vec_len, vec_capacity}
use Rattle.notify_queue.specs.Stamps.{IsInOrder}
use Rattle.notify_queue.proofs.Takings.{TakesOn}
use Rattle.notify_queue.proofs.receiver.Receiver.take_up_to.Given as goal

abbrev pub invariant-loop : goal.invariant-loop
invariant-loop g l = record {
  takes : TakesOn l.initial.self l.got.items l.self;
  in_order : IsInOrder l.self.taken;
  few : vec_len l.got ≤ l.n;
  room : l.n ≤ vec_capacity l.got;
}
