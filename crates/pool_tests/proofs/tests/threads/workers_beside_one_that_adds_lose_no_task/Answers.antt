use Rattle.std.proofs.alloc.Global.TheSendSync as global
use Rattle.std.proofs.rt.LibcRuntime.TheSendSync as runtime
use Rattle.std.proofs.vec.Vec.TheSendSync as list
use Rattle.pool_tests.proofs.Crossings.{inwards, outwards}
use Rattle.pool_tests.proofs.tests.kept.Kept.TheSendSync as job
use Rattle.pool_tests.proofs.tests.Slot.TheSendSync as slot
use Rattle.pool_tests.proofs.tests.threads.CountGate.TheSendSync as gate
use Rattle.pool_tests.proofs.tests.threads.workers_beside_one_that_adds_lose_no_task.Goals as goal

pub join_mut-requires-send-F : goal.join_mut-requires-send-F
join_mut-requires-send-F c κs within = search (job.the_send, list.the_send, slot.the_send, gate.the_sync, global.the_sync, runtime.the_sync, inwards, outwards) depth 60 fits 20000
