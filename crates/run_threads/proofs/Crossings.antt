-- What the stages of a run spend, and what they come to, crosses threads.
use denote.RattleType.{RattleType}
use denote.Ref.{NamedLft}
use denote.Param.Send.{IsSend, view_send, recorded_send, struct_send, sendable}
use denote.Struct.Declared.{shape}
use Rattle.std.proofs.Crossing.{crosses}
use Rattle.std.proofs.alloc.Global.TheSendSync as global_std
use Rattle.std.proofs.option.Option.TheSendSync as option_std
use Rattle.std.proofs.vec.Vec.TheSendSync as vec_std
use Rattle.fan_base.proofs.number.ExecId.TheSendSync as exec_fan_base
use Rattle.core_word.proofs.producer.Producer.TheSendSync as producer_core_word
use Rattle.core_word.proofs.tally.Tally.TheSendSync as tally_core_word
use Rattle.core_proxy.proofs.proxy.NoProxy.TheSendSync as noproxy_core_proxy
use Rattle.core_cells.proofs.Crossings as crossing_core_cells
use Rattle.notify_queue.proofs.Crossings as crossing_notify_queue
use Rattle.fan_parts.specs.declared.run_name.RunName.{Ghosts}
use Rattle.fan_parts.proofs.Crossings as crossing_fan_parts
use Rattle.fan_parts.proofs.part.Part.TheSendSync as part_fan_parts
use Rattle.fan_parts.proofs.shards.RunShards.TheSendSync as shards_fan_parts
use Rattle.prio_pool.proofs.Crossings as crossing_prio_pool
use Rattle.event_base.proofs.Crossings as crossing_event_base
use Rattle.run_gathering.proofs.Crossings as crossing_run_gathering
use Rattle.run_printing.proofs.Crossings as crossing_run_printing
use Rattle.run_tasks.specs.contracts.task.ShardTask as task
use Rattle.run_tasks.specs.contracts.task.ShardTask.TheInside as of_task
use Rattle.run_tasks.specs.contracts.world.TaskWorld as world
use Rattle.run_tasks.specs.contracts.world.TaskWorld.TheInside as of_world
use Rattle.run_tasks.specs.contracts.world.TaskEnds as ends
use Rattle.run_tasks.specs.contracts.stage.WorkerStage as worker_stage
use Rattle.run_threads.specs.contracts.gatherer.GatherSlot as gather_slot
use Rattle.run_threads.specs.contracts.printer.PrinterSlot as printer_slot
use Rattle.run_threads.specs.contracts.worker.WorkerSlot as worker_slot

ruleset all = (global_std.the_field_send, global_std.the_send, option_std.the_send, vec_std.the_send, exec_fan_base.the_send, tally_core_word.the_send, noproxy_core_proxy.the_send, part_fan_parts.the_send, crossing_fan_parts.PartCallback-send, crossing_fan_parts.GatherJob-send, crossing_fan_parts.PrintJob-send, crossing_fan_parts.BasePoster-send, shards_fan_parts.the_field_send, crossing_fan_parts.RunShards-send, crossing_notify_queue.SenderEnd-send, crosses, sendable)

task_inside : (t i : NamedLft) (N : RattleType) (g : Ghosts N.Denot) → IsSend N → IsSend (of_task.the_row t i N g)
task_inside t i N g n = recorded_send (of_task.the_field t i N g).row _ _ (of_task.the_type t i N g).to_one (struct_send (shape (of_task.the_type t i N g)) (
  search (producer_core_word.the_send, all) depth 60 fits 20000,
  (search (crossing_fan_parts.NumberedAsk-send, all) depth 60 fits 20000, (search all depth 60 fits 20000, (search all depth 60 fits 20000, tt))),
))

pub ShardTask-send : (t i : NamedLft) (N : RattleType) (g : Ghosts N.Denot) → IsSend N → IsSend (task.the_row t i N g)
ShardTask-send t i N g n = view_send (of_task.the_row t i N g) _ _ _ _ (task_inside t i N g n)

world_inside : (c t i : NamedLft) (N : RattleType) (g : Ghosts N.Denot) → IsSend N → IsSend (of_world.the_row c t i N g)
world_inside c t i N g n = recorded_send (of_world.the_field c t i N g).row _ _ (of_world.the_type c t i N g).to_one (struct_send (shape (of_world.the_type c t i N g)) (
  search all depth 60 fits 20000,
  (
    search (crossing_core_cells.Cells-sync, all) depth 60 fits 20000,
    (
      search (crossing_core_cells.CellPass-send, all) depth 60 fits 20000,
      (search all depth 60 fits 20000, (search all depth 60 fits 20000, (search all depth 60 fits 20000, (search all depth 60 fits 20000, tt)))),
    ),
  ),
))

pub TaskWorld-send : (c t i : NamedLft) (N : RattleType) (g : Ghosts N.Denot) → IsSend N → IsSend (world.the_row c t i N g)
TaskWorld-send c t i N g n = view_send (of_world.the_row c t i N g) _ _ _ _ (world_inside c t i N g n)

ends_field : (t : NamedLft) (N : RattleType) (g : Ghosts N.Denot) → IsSend N → IsSend (ends.the_field t N g).row
ends_field t N g n = struct_send (shape (ends.the_type t N g)) (
  search all depth 60 fits 20000,
  (search (crossing_core_cells.CellPass-send, all) depth 60 fits 20000, (search all depth 60 fits 20000, (search all depth 60 fits 20000, tt))),
)

pub TaskEnds-send : (t : NamedLft) (N : RattleType) (g : Ghosts N.Denot) → IsSend N → IsSend (ends.the_row t N g)
TaskEnds-send t N g n = recorded_send (ends.the_field t N g).row _ _ (ends.the_type t N g).to_one (ends_field t N g n)

pub WorkerStage-send : (t i : NamedLft) (N : RattleType) (g : Ghosts N.Denot) → IsSend N → IsSend (worker_stage.the_row t i N g)
WorkerStage-send t i N g n = recorded_send (worker_stage.the_field t i N g).row _ _ (worker_stage.the_type t i N g).to_one (struct_send (shape (worker_stage.the_type t i N g)) (
  search (ShardTask-send, crossing_prio_pool.WorkerEnd-send, all) depth 60 fits 20000,
  (search (ends_field, all) depth 60 fits 20000, tt),
))

pub GatherSlot-send : (r i : NamedLft) (N : RattleType) (g : Ghosts N.Denot) → IsSend N → IsSend (gather_slot.the_row r i N g)
GatherSlot-send r i N g n = recorded_send (gather_slot.the_field r i N g).row _ _ (gather_slot.the_type r i N g).to_one (struct_send (shape (gather_slot.the_type r i N g)) (
  search (crossing_event_base.EventBase-send, all) depth 60 fits 20000,
  (
    search all depth 60 fits 20000,
    (
      search (crossing_run_gathering.PartTable-send, all) depth 60 fits 20000,
      (search all depth 60 fits 20000, (search (crossing_run_gathering.GatherStage-send, all) depth 60 fits 20000, (search all depth 60 fits 20000, tt))),
    ),
  ),
))

pub PrinterSlot-send : (k : NamedLft) (N K : RattleType) (g : Ghosts N.Denot) → IsSend N → IsSend K → IsSend (printer_slot.the_row k N K g)
PrinterSlot-send k N K g n s = recorded_send (printer_slot.the_field k N K g).row _ _ (printer_slot.the_type k N K g).to_one (struct_send (shape (printer_slot.the_type k N K g)) (
  search (crossing_event_base.EventBase-send, all) depth 60 fits 20000,
  (
    search all depth 60 fits 20000,
    (search (crossing_run_printing.PrintStage-send, all) depth 60 fits 20000, (search all depth 60 fits 20000, tt)),
  ),
))

pub WorkerSlot-send : (J W : RattleType) → IsSend J → IsSend W → IsSend (worker_slot.the_row J W)
WorkerSlot-send J W j w = recorded_send (worker_slot.the_field J W).row _ _ (worker_slot.the_type J W).to_one (struct_send (shape (worker_slot.the_type J W)) (
  search (crossing_prio_pool.WorkerPass-send, all) depth 60 fits 20000,
  (search (crossing_prio_pool.WorkerEnd-send, all) depth 60 fits 20000, (search all depth 60 fits 20000, tt)),
))
