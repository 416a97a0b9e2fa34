-- What threads are lent of a queue: its ends.
use denote.Param.Send.{sendable}
use Rattle.std.proofs.Crossing.{crosses}
use Rattle.std.proofs.rt.LibcRuntime.TheSendSync as runtime
use Rattle.notify_queue.proofs.Crossings.{Sender-send, SenderEnd-send, Receiver-send}

pub ruleset crossing = (Sender-send, SenderEnd-send, Receiver-send, runtime.the_send, runtime.the_sync, crosses, sendable)
