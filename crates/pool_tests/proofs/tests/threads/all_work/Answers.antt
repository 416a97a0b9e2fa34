use denote.Param.Send.{sendable}
use Rattle.std.proofs.alloc.Global.TheSendSync as global
use Rattle.prio_pool.proofs.Crossings.{Pool-sync}
use Rattle.pool_tests.proofs.Crossings.{inwards, outwards}
use Rattle.pool_tests.proofs.tests.kept.Kept.TheSendSync as job
use Rattle.pool_tests.proofs.tests.threads.CountGate.TheSendSync as gate
use Rattle.pool_tests.proofs.tests.Slot.TheSendSync as slot
use Rattle.pool_tests.proofs.tests.threads.all_work.Goals as goal

pub for_each_mut-requires-send-T : goal.for_each_mut-requires-send-T
for_each_mut-requires-send-T g c κs within = search (slot.the_send, job.the_send, inwards, outwards) depth 60 fits 20000

pub for_each_mut-requires-sync-F : goal.for_each_mut-requires-sync-F
for_each_mut-requires-sync-F g c κs within = search (Pool-sync, job.the_send, gate.the_sync, global.the_sync, sendable) depth 60 fits 20000
