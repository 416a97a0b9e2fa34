-- The pool, its passes and its ends cross threads where the jobs may.
use denote.RattleType.{RattleType}
use denote.Param.Send.{IsSend, IsSync, view_send, view_sync, recorded_send, recorded_sync, struct_send, struct_sync, sendable}
use denote.Struct.Declared.{shape}
use Rattle.std.proofs.Crossing.{crosses}
use Rattle.job_trait.specs.declared.job.Headed.{Ghosts}
use Rattle.crossbeam_utils.proofs.rule.Unruled.TheSendSync as unruled_crossbeam_utils
use Rattle.crossbeam_utils.proofs.sync.parker.RuledParker.TheSendSync as parker_crossbeam_utils
use Rattle.crossbeam_utils.proofs.sync.parker.RuledUnparker.TheSendSync as ruledunparker_crossbeam_utils
use Rattle.crossbeam_utils.proofs.sync.parker.Signals.TheSendSync as signals_crossbeam_utils
use Rattle.atomic_table.proofs.owned.Table.TheSendSync as table_atomic_table
use Rattle.atomic_table.proofs.shared.Seat.TheSendSync as seat_atomic_table
use Rattle.atomic_table.proofs.shared.Shared.TheSendSync as shared_atomic_table
use Rattle.fan_base.proofs.number.ExecId.TheSendSync as exec_fan_base
use Rattle.keep_alive.proofs.keep.Joined.TheSendSync as joined_keep_alive
use Rattle.keep_alive.proofs.keep.KeepAlive.TheSendSync as keep_keep_alive
use Rattle.keep_alive.proofs.keep.KeepOwner.TheSendSync as owner_keep_alive
use Rattle.std.below.std_collections.proofs.linked_list.nodes.Nodes.TheSendSync as nodes_std
use Rattle.std.proofs.alloc.Global.TheSendSync as global_std
use Rattle.std.proofs.collections.LinkedList.TheSendSync as linkedlist_std
use Rattle.std.proofs.marker.PhantomData.TheSendSync as phantomdata_std
use Rattle.std.proofs.mem.ManuallyDrop.TheSendSync as manuallydrop_std
use Rattle.std.proofs.option.Option.TheSendSync as option_std
use Rattle.task_queue.proofs.Crossings as crossing_task_queue
use Rattle.task_queue.proofs.mark.EndMark.TheSendSync as mark_task_queue
use Rattle.task_queue.proofs.mark.OpenSeat.TheSendSync as openseat_task_queue
use Rattle.task_queue.proofs.mark.Watch.TheSendSync as watch_task_queue
use Rattle.pool_runs.proofs.Crossings.{Placed-send, Returned-send}
use Rattle.pool_runs.proofs.records.Place.TheSendSync as place_pool_runs
use Rattle.pool_runs.proofs.records.Records.TheSendSync as records_pool_runs
use Rattle.prio_pool.proofs.runs.Runs.TheSendSync as runs_prio_pool
use Rattle.prio_pool.proofs.sleepers.Sleepers.TheSendSync as sleepers_prio_pool
use Rattle.prio_pool.specs.contracts.adders.Adders as adders
use Rattle.prio_pool.specs.contracts.adders.Adders.TheInside as of_adders
use Rattle.prio_pool.specs.contracts.takers.Takers as takers
use Rattle.prio_pool.specs.contracts.takers.Takers.TheInside as of_takers
use Rattle.prio_pool.specs.contracts.passes.PoolPass as pool_pass
use Rattle.prio_pool.specs.contracts.passes.PoolPass.TheInside as of_pool_pass
use Rattle.prio_pool.specs.contracts.passes.WorkerPass as worker_pass
use Rattle.prio_pool.specs.contracts.passes.WorkerPass.TheInside as of_worker_pass
use Rattle.prio_pool.specs.contracts.passes.HelperPass as helper_pass
use Rattle.prio_pool.specs.contracts.passes.HelperPass.TheInside as of_helper_pass
use Rattle.prio_pool.specs.contracts.passes.WorkerEnd as worker_end
use Rattle.prio_pool.specs.contracts.passes.WorkerEnd.TheInside as of_worker_end
use Rattle.prio_pool.specs.contracts.passes.HelperEnd as helper_end
use Rattle.prio_pool.specs.contracts.passes.HelperEnd.TheInside as of_helper_end
use Rattle.prio_pool.specs.contracts.begin.Joining as joining
use Rattle.prio_pool.specs.contracts.begin.Joining.TheInside as of_joining
use Rattle.prio_pool.specs.contracts.begin.Stopping as stopping
use Rattle.prio_pool.specs.contracts.begin.Stopping.TheInside as of_stopping
use Rattle.prio_pool.specs.contracts.pool.Pool as pool
use Rattle.prio_pool.specs.contracts.pool.Pool.TheInside as of_pool
use Rattle.prio_pool.specs.contracts.ending.PoolEnd as pool_end
use Rattle.prio_pool.specs.contracts.new.PoolParts as pool_parts

ruleset all = (unruled_crossbeam_utils.the_field_send, unruled_crossbeam_utils.the_send, unruled_crossbeam_utils.the_field_sync, unruled_crossbeam_utils.the_sync, parker_crossbeam_utils.the_field_send, ruledunparker_crossbeam_utils.the_field_send, ruledunparker_crossbeam_utils.the_send, ruledunparker_crossbeam_utils.the_field_sync, ruledunparker_crossbeam_utils.the_sync, signals_crossbeam_utils.the_field_send, signals_crossbeam_utils.the_send, signals_crossbeam_utils.the_field_sync, signals_crossbeam_utils.the_sync, table_atomic_table.the_field_send, table_atomic_table.the_send, table_atomic_table.the_field_sync, table_atomic_table.the_sync, seat_atomic_table.the_send, shared_atomic_table.the_send, shared_atomic_table.the_sync, exec_fan_base.the_field_send, exec_fan_base.the_send, exec_fan_base.the_field_sync, exec_fan_base.the_sync, joined_keep_alive.the_send, keep_keep_alive.the_send, owner_keep_alive.the_send, nodes_std.the_send, nodes_std.the_sync, global_std.the_field_send, global_std.the_send, global_std.the_field_sync, global_std.the_sync, linkedlist_std.the_send, linkedlist_std.the_sync, phantomdata_std.the_field_send, phantomdata_std.the_send, phantomdata_std.the_field_sync, phantomdata_std.the_sync, manuallydrop_std.the_field_send, manuallydrop_std.the_send, option_std.the_field_send, option_std.the_send, mark_task_queue.the_send, mark_task_queue.the_sync, openseat_task_queue.the_send, watch_task_queue.the_send, place_pool_runs.the_send, records_pool_runs.the_send, runs_prio_pool.the_send, sleepers_prio_pool.the_field_send, sleepers_prio_pool.the_send, sleepers_prio_pool.the_field_sync, sleepers_prio_pool.the_sync, crossing_task_queue.Queued-send, crossing_task_queue.Packets-send, crossing_task_queue.Adder-send, crossing_task_queue.Taker-send, crossing_task_queue.Gathered-send, crossing_task_queue.Looks-send, crosses, sendable)

adders_inside : (J : RattleType) → IsSend J → IsSend (of_adders.the_row J)
adders_inside J s = recorded_send (of_adders.the_field J).row _ _ (of_adders.the_type J).to_one (struct_send (shape (of_adders.the_type J)) (
  search (Placed-send, all) depth 60 fits 20000,
  (search all depth 60 fits 20000, (search all depth 60 fits 20000, (search all depth 60 fits 20000, (search all depth 60 fits 20000, (search all depth 60 fits 20000, tt))))),
))

Adders-send : (J : RattleType) → IsSend J → IsSend (adders.the_row J)
Adders-send J s = view_send (of_adders.the_row J) _ _ _ _ (adders_inside J s)

takers_inside : (J : RattleType) → IsSend J → IsSend (of_takers.the_row J)
takers_inside J s = recorded_send (of_takers.the_field J).row _ _ (of_takers.the_type J).to_one (struct_send (shape (of_takers.the_type J)) (
  search (Placed-send, all) depth 60 fits 20000,
  (search all depth 60 fits 20000, (search all depth 60 fits 20000, (search all depth 60 fits 20000, (search all depth 60 fits 20000, tt)))),
))

Takers-send : (J : RattleType) → IsSend J → IsSend (takers.the_row J)
Takers-send J s = view_send (of_takers.the_row J) _ _ _ _ (takers_inside J s)

pool_pass_inside : (J : RattleType) → IsSend J → IsSend (of_pool_pass.the_row J)
pool_pass_inside J s = recorded_send (of_pool_pass.the_field J).row _ _ (of_pool_pass.the_type J).to_one (struct_send (shape (of_pool_pass.the_type J)) (search (Adders-send, all) depth 60 fits 20000, (search all depth 60 fits 20000, tt)))

pub PoolPass-send : (J : RattleType) → IsSend J → IsSend (pool_pass.the_row J)
PoolPass-send J s = view_send (of_pool_pass.the_row J) _ _ _ _ (pool_pass_inside J s)

worker_pass_inside : (J : RattleType) → IsSend J → IsSend (of_worker_pass.the_row J)
worker_pass_inside J s = recorded_send (of_worker_pass.the_field J).row _ _ (of_worker_pass.the_type J).to_one (struct_send (shape (of_worker_pass.the_type J)) (search (Takers-send, all) depth 60 fits 20000, (search all depth 60 fits 20000, tt)))

pub WorkerPass-send : (J : RattleType) → IsSend J → IsSend (worker_pass.the_row J)
WorkerPass-send J s = view_send (of_worker_pass.the_row J) _ _ _ _ (worker_pass_inside J s)

helper_pass_inside : (J : RattleType) → IsSend J → IsSend (of_helper_pass.the_row J)
helper_pass_inside J s = recorded_send (of_helper_pass.the_field J).row _ _ (of_helper_pass.the_type J).to_one (struct_send (shape (of_helper_pass.the_type J)) (search (Takers-send, all) depth 60 fits 20000, (search all depth 60 fits 20000, tt)))

pub HelperPass-send : (J : RattleType) → IsSend J → IsSend (helper_pass.the_row J)
HelperPass-send J s = view_send (of_helper_pass.the_row J) _ _ _ _ (helper_pass_inside J s)

worker_end_inside : (J : RattleType) → IsSend J → IsSend (of_worker_end.the_row J)
worker_end_inside J s = recorded_send (of_worker_end.the_field J).row _ _ (of_worker_end.the_type J).to_one (struct_send (shape (of_worker_end.the_type J)) (search (Takers-send, all) depth 60 fits 20000, (search all depth 60 fits 20000, tt)))

pub WorkerEnd-send : (J : RattleType) → IsSend J → IsSend (worker_end.the_row J)
WorkerEnd-send J s = view_send (of_worker_end.the_row J) _ _ _ _ (worker_end_inside J s)

helper_end_inside : (J : RattleType) → IsSend J → IsSend (of_helper_end.the_row J)
helper_end_inside J s = recorded_send (of_helper_end.the_field J).row _ _ (of_helper_end.the_type J).to_one (struct_send (shape (of_helper_end.the_type J)) (search (Takers-send, all) depth 60 fits 20000, (search all depth 60 fits 20000, tt)))

pub HelperEnd-send : (J : RattleType) → IsSend J → IsSend (helper_end.the_row J)
HelperEnd-send J s = view_send (of_helper_end.the_row J) _ _ _ _ (helper_end_inside J s)

joining_inside : (J : RattleType) (g : Ghosts J.Denot) → IsSend J → IsSend (of_joining.the_row J g)
joining_inside J g s = recorded_send (of_joining.the_field J g).row _ _ (of_joining.the_type J g).to_one (struct_send (shape (of_joining.the_type J g)) (
  search (Adders-send, all) depth 60 fits 20000,
  (search all depth 60 fits 20000, (search all depth 60 fits 20000, (search all depth 60 fits 20000, tt))),
))

pub Joining-send : (J : RattleType) (g : Ghosts J.Denot) → IsSend J → IsSend (joining.the_row J g)
Joining-send J g s = view_send (of_joining.the_row J g) _ _ _ _ (joining_inside J g s)

stopping_inside : (J : RattleType) (g : Ghosts J.Denot) → IsSend J → IsSend (of_stopping.the_row J g)
stopping_inside J g s = recorded_send (of_stopping.the_field J g).row _ _ (of_stopping.the_type J g).to_one (struct_send (shape (of_stopping.the_type J g)) (
  search (Adders-send, all) depth 60 fits 20000,
  (search all depth 60 fits 20000, (search all depth 60 fits 20000, (search all depth 60 fits 20000, tt))),
))

pub Stopping-send : (J : RattleType) (g : Ghosts J.Denot) → IsSend J → IsSend (stopping.the_row J g)
Stopping-send J g s = view_send (of_stopping.the_row J g) _ _ _ _ (stopping_inside J g s)

pool_inside : (J : RattleType) (g : Ghosts J.Denot) → IsSend J → IsSync (of_pool.the_row J g)
pool_inside J g s = recorded_sync (of_pool.the_field J g).row _ _ (of_pool.the_type J g).to_one (struct_sync (shape (of_pool.the_type J g)) (
  search (Placed-send, crossing_task_queue.TaskQueue-sync, all) depth 60 fits 20000,
  (
    search all depth 60 fits 20000,
    (search all depth 60 fits 20000, (search all depth 60 fits 20000, (search all depth 60 fits 20000, (search all depth 60 fits 20000, (search all depth 60 fits 20000, (search all depth 60 fits 20000, (search all depth 60 fits 20000, tt))))))),
  ),
))

pub Pool-sync : (J : RattleType) (g : Ghosts J.Denot) → IsSend J → IsSync (pool.the_row J g)
Pool-sync J g s = view_sync (of_pool.the_row J g) _ _ _ _ (pool_inside J g s)

pool_inside_send : (J : RattleType) (g : Ghosts J.Denot) → IsSend J → IsSend (of_pool.the_row J g)
pool_inside_send J g s = recorded_send (of_pool.the_field J g).row _ _ (of_pool.the_type J g).to_one (struct_send (shape (of_pool.the_type J g)) (
  search (Placed-send, crossing_task_queue.TaskQueue-send, all) depth 60 fits 20000,
  (
    search all depth 60 fits 20000,
    (search all depth 60 fits 20000, (search all depth 60 fits 20000, (search all depth 60 fits 20000, (search all depth 60 fits 20000, (search all depth 60 fits 20000, (search all depth 60 fits 20000, (search all depth 60 fits 20000, tt))))))),
  ),
))

pub Pool-send : (J : RattleType) (g : Ghosts J.Denot) → IsSend J → IsSend (pool.the_row J g)
Pool-send J g s = view_send (of_pool.the_row J g) _ _ _ _ (pool_inside_send J g s)

pub PoolEnd-send : (J : RattleType) → IsSend J → IsSend (pool_end.the_row J)
PoolEnd-send J s = recorded_send (pool_end.the_field J).row _ _ (pool_end.the_type J).to_one (struct_send (shape (pool_end.the_type J)) (search all depth 60 fits 20000, (search all depth 60 fits 20000, (Returned-send J s, tt))))

pub PoolParts-send : (J : RattleType) (g : Ghosts J.Denot) → IsSend J → IsSend (pool_parts.the_row J g)
PoolParts-send J g s = recorded_send (pool_parts.the_field J g).row _ _ (pool_parts.the_type J g).to_one (struct_send (shape (pool_parts.the_type J g)) (
  Pool-send J g s,
  (
    search all depth 60 fits 20000,
    (search all depth 60 fits 20000, (search (PoolPass-send, all) depth 60 fits 20000, (search (WorkerPass-send, all) depth 60 fits 20000, (search (HelperPass-send, all) depth 60 fits 20000, tt)))),
  ),
))
