use denote.Param.Send.{arg_send, param_send, sendable}
use Rattle.prio_pool.proofs.Crossings.{Pool-sync}
use Rattle.run_threads.proofs.Crossings.{WorkerSlot-send}
use Rattle.run_threads.proofs.worker.work_all_beside.Goals as goal

pub call_all_beside-requires-send-S : goal.call_all_beside-requires-send-S
call_all_beside-requires-send-S g c κs within = search (WorkerSlot-send, arg_send, param_send, sendable) depth 60 fits 20000

pub call_all_beside-requires-sync-H : goal.call_all_beside-requires-sync-H
call_all_beside-requires-sync-H g c κs within = search (Pool-sync, arg_send, param_send, sendable) depth 60 fits 20000
