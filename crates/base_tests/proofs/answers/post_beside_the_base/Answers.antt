use denote.Param.Send.{sendable}
use Rattle.std.proofs.Crossing.{crosses}
use Rattle.base_tests.proofs.answers.Slot.TheSendSync as slot
use Rattle.base_tests.proofs.note.Note.TheSendSync as note
use Rattle.notify_queue.proofs.Crossings.{Sender-send, Receiver-send, SenderEnd-send}
use Rattle.base_tests.proofs.answers.post_beside_the_base.Goals as goal

pub join_mut-why-requires-send-F : goal.join_mut-why-requires-send-F
join_mut-why-requires-send-F g c κs within = search (slot.the_send, Sender-send, Receiver-send, SenderEnd-send, note.the_send, crosses, sendable) depth 60 fits 20000
