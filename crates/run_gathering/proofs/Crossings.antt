-- What a gathering base has come to crosses threads, and so does what it awaits.
use denote.RattleType.{RattleType}
use denote.Ref.{NamedLft}
use denote.Param.Send.{IsSend, view_send, recorded_send, struct_send, sendable}
use denote.Struct.Declared.{shape}
use Rattle.std.proofs.Crossing.{crosses}
use Rattle.std.proofs.alloc.Global.TheSendSync as global_std
use Rattle.std.proofs.vec.Vec.TheSendSync as vec_std
use Rattle.fan_base.proofs.number.ExecId.TheSendSync as exec_fan_base
use Rattle.core_word.proofs.tally.Tally.TheSendSync as tally_core_word
use Rattle.notify_queue.proofs.Crossings as crossing_notify_queue
use Rattle.event_base.proofs.Crossings as crossing_event_base
use Rattle.fan_parts.specs.declared.run_name.RunName.{Ghosts}
use Rattle.fan_parts.proofs.Crossings as crossing_fan_parts
use Rattle.fan_parts.proofs.part.Part.TheSendSync as part_fan_parts
use Rattle.collect_ops.proofs.Crossings as crossing_collect_ops
use Rattle.run_gathering.specs.contracts.looping.GatherStage as stage
use Rattle.run_gathering.specs.contracts.table.Awaited as awaited
use Rattle.run_gathering.specs.contracts.table.PartTable as table
use Rattle.run_gathering.specs.contracts.table.PartTable.TheInside as of_table

ruleset all = (global_std.the_field_send, global_std.the_send, vec_std.the_send, exec_fan_base.the_send, crosses, sendable)

pub GatherStage-send : (N : RattleType) (g : Ghosts N.Denot) → IsSend N → IsSend (stage.the_row N g)
GatherStage-send N g n =
    search (crossing_event_base.EventBase-send, crossing_fan_parts.GatherJob-send, crossing_fan_parts.PrintJob-send, crossing_notify_queue.SenderEnd-send, tally_core_word.the_send, all) depth 60 fits 20000

pub Awaited-send : (r i : NamedLft) (N : RattleType) (g : Ghosts N.Denot) → IsSend N → IsSend (awaited.the_row r i N g)
Awaited-send r i N g n = search (crossing_collect_ops.OwnedDesk-send, crossing_fan_parts.End-send, part_fan_parts.the_send, all) depth 60 fits 20000

table_inside : (r i : NamedLft) (N : RattleType) (g : Ghosts N.Denot) → IsSend N → IsSend (of_table.the_row r i N g)
table_inside r i N g n = recorded_send (of_table.the_field r i N g).row _ _ (of_table.the_type r i N g).to_one (struct_send (shape (of_table.the_type r i N g)) (
  search (Awaited-send, all) depth 60 fits 20000,
  (search all depth 60 fits 20000, (search all depth 60 fits 20000, tt)),
))

pub PartTable-send : (r i : NamedLft) (N : RattleType) (g : Ghosts N.Denot) → IsSend N → IsSend (table.the_row r i N g)
PartTable-send r i N g n = view_send (of_table.the_row r i N g) _ _ _ _ (table_inside r i N g n)
