-- What crosses threads, where what the desk keeps and its end may.
use denote.RattleType.{RattleType}
use denote.Ref.{NamedLft}
use denote.Param.Send.{IsSend, IsSync, sendable}
use Rattle.std.proofs.Crossing.{crosses}
use Rattle.std.proofs.alloc.Global.TheSendSync as global_std
use Rattle.std.proofs.option.Option.TheSendSync as option_std
use Rattle.std.proofs.marker.PhantomData.TheSendSync as phantomdata_std
use Rattle.std.proofs.collections.LinkedList.TheSendSync as linkedlist_std
use Rattle.atomic_table.proofs.owned.Table.TheSendSync as table_atomic_table
use Rattle.atomic_table.proofs.send_lease.SendLease.TheSendSync as sendlease_atomic_table
use Rattle.atomic_table.proofs.shared.Seat.TheSendSync as seat_atomic_table
use Rattle.atomic_table.proofs.shared.Shared.TheSendSync as shared_atomic_table
use Rattle.fan_base.proofs.outcome.Try.TheSendSync as try_fan_base
use Rattle.collect_ops.proofs.view.Item.TheSendSync as item_own
use Rattle.collect_ops.proofs.view.Ending.TheSendSync as ending_own
use Rattle.collect_ops.proofs.view.View.TheSendSync as view_own
use Rattle.collect_ops.proofs.view.Phase.TheSendSync as phase_own
use Rattle.collect_ops.proofs.rule.DeskRule.TheSendSync as rule_own
use Rattle.collect_ops.specs.contracts.listed.Listed as listed
use Rattle.collect_ops.specs.contracts.receipt.Receipt as receipt
use Rattle.collect_ops.specs.contracts.receipt.Lost as lost
use Rattle.collect_ops.specs.contracts.receipt.Completed as completed
use Rattle.collect_ops.specs.contracts.arrival.Arrival as arrival
use Rattle.collect_ops.specs.contracts.arrival.Arrivals as arrivals
use Rattle.collect_ops.specs.contracts.desk.Desk as desk
use Rattle.collect_ops.specs.contracts.owned.OwnedDesk as owned

ruleset parts = (option_std.the_field_send, option_std.the_send, option_std.the_field_sync, option_std.the_sync, phantomdata_std.the_field_send, phantomdata_std.the_send, phantomdata_std.the_field_sync, phantomdata_std.the_sync, linkedlist_std.the_send, global_std.the_field_send, global_std.the_send, global_std.the_field_sync, global_std.the_sync, table_atomic_table.the_field_send, table_atomic_table.the_send, table_atomic_table.the_field_sync, table_atomic_table.the_sync, sendlease_atomic_table.the_send, sendlease_atomic_table.the_sync, seat_atomic_table.the_send, shared_atomic_table.the_send, shared_atomic_table.the_sync, try_fan_base.the_field_send, try_fan_base.the_send, item_own.the_field_send, item_own.the_send, ending_own.the_field_send, ending_own.the_send, view_own.the_field_send, view_own.the_send, phase_own.the_field_send, phase_own.the_send, rule_own.the_field_send, rule_own.the_send, crosses, sendable)

pub Listed-send : (X : RattleType) → IsSend X → IsSend (listed.the_row X)
Listed-send X value = search parts depth 60 fits 20000

pub Receipt-send : (X E : RattleType) → IsSend X → IsSend E → IsSend (receipt.the_row X E)
Receipt-send X E value end = search parts depth 60 fits 20000

pub Lost-send : (X E : RattleType) → IsSend X → IsSend E → IsSend (lost.the_row X E)
Lost-send X E value end = search parts depth 60 fits 20000

pub Desk-send : (X E K : RattleType) → IsSend X → IsSend E → IsSend K → IsSend (desk.the_row X E K)
Desk-send X E K value end kind = search parts depth 60 fits 20000

pub Completed-send : (α : NamedLft) (X E : RattleType) → IsSend X → IsSend E → IsSend (completed.the_row α X E)
Completed-send α X E value end = search parts depth 60 fits 20000

pub Arrival-send : (α : NamedLft) (D X E : RattleType) → IsSend X → IsSend E → IsSend (arrival.the_row α D X E)
Arrival-send α D X E value end = search parts depth 60 fits 20000

pub Arrivals-send : (α : NamedLft) (D X E : RattleType) → IsSend X → IsSend E → IsSend (arrivals.the_row α D X E)
Arrivals-send α D X E value end = search parts depth 60 fits 20000

pub OwnedDesk-send : (T E : RattleType) → IsSend T → IsSend E → IsSend (owned.the_row T E)
OwnedDesk-send T E value end = search parts depth 60 fits 20000
