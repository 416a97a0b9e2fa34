-- Cells and their passes cross threads where results, callbacks and proxies may.
use denote.RattleType.{RattleType}
use denote.Ref.{NamedLft}
use denote.Param.Send.{IsSend, IsSync, view_send, view_sync, recorded_send, recorded_sync, struct_send, struct_sync, sendable}
use denote.Struct.Declared.{shape}
use Rattle.std.proofs.Crossing.{crosses}
use Rattle.std.proofs.alloc.Global.TheSendSync as global_std
use Rattle.std.proofs.marker.PhantomData.TheSendSync as phantomdata_std
use Rattle.std.proofs.option.Option.TheSendSync as option_std
use Rattle.fan_base.proofs.outcome.Try.TheSendSync as try_fan_base
use Rattle.core_state.proofs.schedule.Request.TheSendSync as request_core_state
use Rattle.core_word.proofs.view.Item.TheSendSync as item_core_word
use Rattle.core_word.proofs.home.Key.TheSendSync as key_core_word
use Rattle.atomic_table.proofs.owned.Table.TheSendSync as table_atomic_table
use Rattle.atomic_table.proofs.send_lease.SendLease.TheSendSync as sendlease_atomic_table
use Rattle.atomic_table.proofs.shared.Seat.TheSendSync as seat_atomic_table
use Rattle.atomic_table.proofs.shared.Shared.TheSendSync as shared_atomic_table
use Rattle.crossbeam_queue.proofs.array_queue.Slotted.TheSendSync as slotted_crossbeam_queue
use Rattle.core_cells.specs.contracts.pass.CellPass as pass
use Rattle.core_cells.specs.contracts.pass.CellPass.TheInside as of_pass
use Rattle.core_cells.specs.contracts.cells.Cells as cells
use Rattle.core_cells.specs.contracts.cells.Cells.TheInside as of_cells

ruleset all = (global_std.the_send, global_std.the_sync, phantomdata_std.the_send, phantomdata_std.the_sync, option_std.the_send, option_std.the_sync, try_fan_base.the_send, try_fan_base.the_sync, request_core_state.the_send, request_core_state.the_sync, item_core_word.the_send, item_core_word.the_sync, key_core_word.the_send, table_atomic_table.the_send, table_atomic_table.the_sync, sendlease_atomic_table.the_send, sendlease_atomic_table.the_sync, seat_atomic_table.the_send, shared_atomic_table.the_send, shared_atomic_table.the_sync, slotted_crossbeam_queue.the_send, slotted_crossbeam_queue.the_sync, crosses, sendable)

pass_inside : (h : NamedLft) (T C P : RattleType) → IsSend T → IsSend C → IsSend P → IsSend (of_pass.the_row h T C P)
pass_inside h T C P t c p = recorded_send (of_pass.the_field h T C P).row _ _ (of_pass.the_type h T C P).to_one (struct_send (shape (of_pass.the_type h T C P)) (search all depth 60 fits 20000, tt))

pub CellPass-send : (h : NamedLft) (T C P : RattleType) → IsSend T → IsSend C → IsSend P → IsSend (pass.the_row h T C P)
CellPass-send h T C P t c p = view_send (of_pass.the_row h T C P) _ _ _ _ (pass_inside h T C P t c p)

cells_inside_sync : (h : NamedLft) (T C P : RattleType) → IsSend T → IsSend C → IsSend P → IsSync (of_cells.the_row h T C P)
cells_inside_sync h T C P t c p = recorded_sync (of_cells.the_field h T C P).row _ _ (of_cells.the_type h T C P).to_one (struct_sync (shape (of_cells.the_type h T C P)) (search all depth 60 fits 20000, tt))

pub Cells-sync : (h : NamedLft) (T C P : RattleType) → IsSend T → IsSend C → IsSend P → IsSync (cells.the_row h T C P)
Cells-sync h T C P t c p = view_sync (of_cells.the_row h T C P) _ _ _ _ (cells_inside_sync h T C P t c p)
