-- A base crosses threads where its jobs may.
use denote.RattleType.{RattleType}
use denote.Param.Send.{IsSend, view_send, recorded_send, struct_send, sendable}
use denote.Struct.Declared.{shape}
use Rattle.std.proofs.Crossing.{crosses}
use Rattle.std.proofs.alloc.Global.TheSendSync as global_std
use Rattle.fan_base.proofs.number.ExecId.TheSendSync as exec_fan_base
use Rattle.notify_queue.proofs.Crossings as crossing_notify_queue
use Rattle.event_base.proofs.agenda.Agenda.TheSendSync as agenda_own
use Rattle.event_base.specs.contracts.base.EventBase as base
use Rattle.event_base.specs.contracts.base.EventBase.TheInside as of_base

ruleset all = (global_std.the_field_send, global_std.the_send, exec_fan_base.the_send, crosses, sendable)

base_inside : (J : RattleType) → IsSend J → IsSend (of_base.the_row J)
base_inside J s = recorded_send (of_base.the_field J).row _ _ (of_base.the_type J).to_one (struct_send (shape (of_base.the_type J)) (
  search (agenda_own.the_send, all) depth 60 fits 20000,
  (search (crossing_notify_queue.Receiver-send, all) depth 60 fits 20000, (search all depth 60 fits 20000, tt)),
))

pub EventBase-send : (J : RattleType) → IsSend J → IsSend (base.the_row J)
EventBase-send J s = view_send (of_base.the_row J) _ _ _ _ (base_inside J s)
