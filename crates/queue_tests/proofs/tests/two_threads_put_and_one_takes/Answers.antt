use Rattle.queue_tests.proofs.Crossings.{crossing}
use Rattle.queue_tests.proofs.tests.Slot.TheSendSync as slot
use Rattle.queue_tests.proofs.tests.two_threads_put_and_one_takes.Goals as goal

pub join_mut-requires-send-F : goal.join_mut-requires-send-F
join_mut-requires-send-F c κs within = search (slot.the_send, crossing) depth 60 fits 20000
