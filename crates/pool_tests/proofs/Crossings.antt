-- What goes into a thread and comes out of it, but for the jobs and the gate.
use denote.Param.Send.{sendable}
use Rattle.std.proofs.Crossing.{crosses}
use Rattle.std.proofs.rt.LibcRuntime.TheSendSync as runtime
use Rattle.fan_base.proofs.Crossing.{Parcel-send}
use Rattle.prio_pool.proofs.Crossings.{WorkerPass-send, WorkerEnd-send, Pool-sync}

pub ruleset inwards = (Parcel-send, WorkerPass-send, Pool-sync, runtime.the_send, crosses, sendable)

pub ruleset outwards = (WorkerEnd-send, crosses, sendable)
