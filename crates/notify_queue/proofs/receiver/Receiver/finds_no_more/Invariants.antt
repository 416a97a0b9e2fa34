use Rattle.std.proofs.Common.{◌≡◌}
use Rattle.notify_queue.proofs.Receivings.{LooksOn}
use Rattle.notify_queue.proofs.receiver.Receiver.finds_no_more.Given as goal

abbrev pub invariant-loop-sender : goal.invariant-loop-sender
invariant-loop-sender g l = record {
  only : l.self-inside ≡ record l.initial.self-inside { seat = l.self-inside.seat };
  looks : LooksOn l.initial.self-inside l.self-inside.seat l.sender;
}
