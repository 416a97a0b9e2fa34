use denote.Ref.{NamedLft}
use denote.RattleType.{RattleType}
use denote.Param.Send.{IsSend, view_send, recorded_send, struct_send, sendable}
use denote.Struct.Declared.{shape}
use Rattle.std.proofs.Crossing.{crosses}
use Rattle.std.proofs.marker.PhantomData.TheSendSync as phantomdata_std
use Rattle.std.proofs.option.Option.TheSendSync as option_std
use Rattle.fan_base.proofs.outcome.Try.TheSendSync as try_fan_base
use Rattle.core_state.proofs.schedule.Request.TheSendSync as request_core_state
use Rattle.core_word.proofs.view.Item.TheSendSync as item_core_word
use Rattle.atomic_table.proofs.owned.Table.TheSendSync as table_atomic_table
use Rattle.atomic_table.proofs.send_lease.SendLease.TheSendSync as sendlease_atomic_table
use Rattle.atomic_table.proofs.shared.Seat.TheSendSync as seat_atomic_table
use Rattle.atomic_table.proofs.shared.Shared.TheSendSync as shared_atomic_table
use Rattle.core_word.specs.contracts.left.Husk as husk
use Rattle.core_word.specs.contracts.left.Husk.TheInside as of_husk
use Rattle.core_tests.proofs.rows.left_may_cross.Goals as goal

ruleset all = (phantomdata_std.the_send, phantomdata_std.the_sync, option_std.the_send, option_std.the_sync, try_fan_base.the_send, try_fan_base.the_sync, request_core_state.the_send, request_core_state.the_sync, item_core_word.the_send, item_core_word.the_sync, table_atomic_table.the_send, table_atomic_table.the_sync, sendlease_atomic_table.the_send, sendlease_atomic_table.the_sync, seat_atomic_table.the_send, shared_atomic_table.the_send, shared_atomic_table.the_sync, crosses, sendable)

husk_inside : (h : NamedLft) (T C P : RattleType) → IsSend T → IsSend C → IsSend P → IsSend (of_husk.the_row h T C P)
husk_inside h T C P t c p = recorded_send (of_husk.the_field h T C P).row _ _ (of_husk.the_type h T C P).to_one (struct_send (shape (of_husk.the_type h T C P)) (search all depth 60 fits 20000, (search all depth 60 fits 20000, (search (crosses) depth 20 fits 2000, tt))))

husk_send : (h : NamedLft) (T C P : RattleType) → IsSend T → IsSend C → IsSend P → IsSend (husk.the_row h T C P)
husk_send h T C P t c p = view_send (of_husk.the_row h T C P) _ _ _ _ (husk_inside h T C P t c p)

pub may_cross-requires-in-Last-2-send-X : goal.may_cross-requires-in-Last-2-send-X
may_cross-requires-in-Last-2-send-X c κs = search (husk_send, crosses, sendable) depth 60 fits 20000
