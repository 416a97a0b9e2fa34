-- A stage crosses threads where its messages may.
use denote.RattleType.{RattleType}
use denote.Param.Send.{IsSend, recorded_send, struct_send, sendable}
use denote.Struct.Declared.{shape}
use Rattle.std.proofs.Crossing.{crosses}
use Rattle.std.proofs.alloc.Global.TheSendSync as global_std
use Rattle.fan_base.proofs.number.ExecId.TheSendSync as exec_fan_base
use Rattle.core_word.proofs.tally.Tally.TheSendSync as tally_core_word
use Rattle.event_base.proofs.Crossings as crossing_event_base
use Rattle.reply_printer.proofs.printer.Printer.TheSendSync as printer_reply_printer
use Rattle.run_printing.specs.contracts.stage.PrintStage as stage

ruleset all = (global_std.the_field_send, global_std.the_send, exec_fan_base.the_send, crosses, sendable)

pub PrintStage-send : (J : RattleType) → IsSend J → IsSend (stage.the_row J)
PrintStage-send J s = recorded_send (stage.the_field J).row _ _ (stage.the_type J).to_one (struct_send (shape (stage.the_type J)) (
  search (crossing_event_base.EventBase-send, all) depth 60 fits 20000,
  (
    search (printer_reply_printer.the_field_send, printer_reply_printer.the_send, all) depth 60 fits 20000,
    (search (tally_core_word.the_send, all) depth 60 fits 20000, (search all depth 60 fits 20000, (search all depth 60 fits 20000, tt))),
  ),
))
