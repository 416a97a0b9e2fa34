-- The ends of a queue cross threads where the messages may.
use denote.RattleType.{RattleType}
use denote.Param.Send.{IsSend, IsSync, view_send, recorded_send, struct_send, sendable}
use denote.Struct.Declared.{shape}
use Rattle.std.proofs.Crossing.{crosses}
use Rattle.fan_base.proofs.Crossing as crossing_fan_base
use Rattle.queue_packets.proofs.Crossings as crossing_queue_packets
use Rattle.atomic_blocks.proofs.block.Link.TheSendSync as link_atomic_blocks
use Rattle.atomic_blocks.proofs.web.Seat.TheSendSync as seat_atomic_blocks
use Rattle.atomic_blocks.proofs.web.Web.TheSendSync as web_atomic_blocks
use Rattle.atomic_table.proofs.owned.Table.TheSendSync as table_atomic_table
use Rattle.atomic_table.proofs.send_lease.SendLease.TheSendSync as sendlease_atomic_table
use Rattle.atomic_table.proofs.shared.Seat.TheSendSync as seat_atomic_table
use Rattle.atomic_table.proofs.shared.Shared.TheSendSync as shared_atomic_table
use Rattle.crossbeam_queue.proofs.array_queue.Slotted.TheSendSync as slotted_crossbeam_queue
use Rattle.crossbeam_queue.proofs.array_queue.Turns.TheSendSync as turns_crossbeam_queue
use Rattle.crossbeam_queue.proofs.array_queue.plain.ArrayQueue.TheSendSync as array_crossbeam_queue
use Rattle.crossbeam_queue.proofs.protocol.Free.TheSendSync as free_crossbeam_queue
use Rattle.crossbeam_queue.proofs.seg_queue.Chained.TheSendSync as chained_crossbeam_queue
use Rattle.crossbeam_queue.proofs.seg_queue.Ends.TheSendSync as ends_crossbeam_queue
use Rattle.crossbeam_queue.proofs.seg_queue.Laps.TheSendSync as laps_crossbeam_queue
use Rattle.crossbeam_queue.proofs.seg_queue.Stage.TheSendSync as stage_crossbeam_queue
use Rattle.crossbeam_utils.proofs.rule.Unruled.TheSendSync as unruled_crossbeam_utils
use Rattle.crossbeam_utils.proofs.sync.parker.RuledUnparker.TheSendSync as ruledunparker_crossbeam_utils
use Rattle.crossbeam_utils.proofs.sync.parker.Signals.TheSendSync as signals_crossbeam_utils
use Rattle.notify_queue.proofs.delivery.Delivery.TheSendSync as delivery_notify_queue
use Rattle.notify_queue.proofs.delivery.Knowledge.TheSendSync as knowledge_notify_queue
use Rattle.notify_queue.proofs.delivery.EndedSender.TheSendSync as ended_sender_notify_queue
use Rattle.notify_queue.proofs.marks.Look.TheSendSync as look_notify_queue
use Rattle.notify_queue.proofs.marks.MarkRule.TheSendSync as markrule_notify_queue
use Rattle.notify_queue.proofs.marks.Role.TheSendSync as role_notify_queue
use Rattle.notify_queue.proofs.stamp.Stamp.TheSendSync as stamp_notify_queue
use Rattle.notify_queue.proofs.stamp.Stamped.TheSendSync as stamped_notify_queue
use Rattle.std.below.std_collections.proofs.linked_list.nodes.Nodes.TheSendSync as nodes_std
use Rattle.std.proofs.alloc.Global.TheSendSync as global_std
use Rattle.std.proofs.boxed.Box.TheSendSync as box_std
use Rattle.std.proofs.collections.LinkedList.TheSendSync as linkedlist_std
use Rattle.std.proofs.marker.PhantomData.TheSendSync as phantomdata_std
use Rattle.std.proofs.mem.ManuallyDrop.TheSendSync as manuallydrop_std
use Rattle.std.proofs.option.Option.TheSendSync as option_std
use Rattle.std.proofs.rt.Memory.TheSendSync as memory_std
use Rattle.std.proofs.sync.Arc.TheSendSync as arc_std
use Rattle.std.proofs.sync.atomic.AtomicBool.TheSendSync as atomic_bool_std
use Rattle.std.proofs.vec.Vec.TheSendSync as vec_std
use Rattle.fan_base.specs.contracts.parcel.Parcel as parcel
use Rattle.notify_queue.specs.contracts.channel.Channel as channel
use Rattle.notify_queue.specs.contracts.sender.Sender as sender
use Rattle.notify_queue.specs.contracts.sender.Sender.TheInside as of_sender
use Rattle.notify_queue.specs.contracts.sender.SenderEnd as end
use Rattle.notify_queue.specs.contracts.sender.SenderEnd.TheInside as of_end
use Rattle.notify_queue.specs.contracts.receiver.Receiver as receiver
use Rattle.notify_queue.specs.contracts.receiver.Receiver.TheInside as of_receiver
use Rattle.notify_queue.specs.contracts.rest.Rest as rest
use Rattle.notify_queue.specs.contracts.rest.Rest.TheInside as of_rest
use Rattle.crossbeam_utils.proofs.sync.parker.RuledParker.TheSendSync as parker

ruleset all = (atomic_bool_std.the_send, atomic_bool_std.the_sync, link_atomic_blocks.the_field_send, link_atomic_blocks.the_send, link_atomic_blocks.the_field_sync, link_atomic_blocks.the_sync, seat_atomic_blocks.the_send, web_atomic_blocks.the_send, web_atomic_blocks.the_sync, table_atomic_table.the_field_send, table_atomic_table.the_send, table_atomic_table.the_field_sync, table_atomic_table.the_sync, sendlease_atomic_table.the_send, sendlease_atomic_table.the_sync, seat_atomic_table.the_send, shared_atomic_table.the_send, shared_atomic_table.the_sync, phantomdata_std.the_field_send, phantomdata_std.the_send, phantomdata_std.the_field_sync, phantomdata_std.the_sync, manuallydrop_std.the_field_send, manuallydrop_std.the_send, manuallydrop_std.the_field_sync, manuallydrop_std.the_sync, option_std.the_field_send, option_std.the_send, option_std.the_field_sync, option_std.the_sync, memory_std.the_field_send, memory_std.the_send, memory_std.the_field_sync, memory_std.the_sync, chained_crossbeam_queue.the_send, chained_crossbeam_queue.the_sync, ends_crossbeam_queue.the_field_send, ends_crossbeam_queue.the_send, ends_crossbeam_queue.the_field_sync, ends_crossbeam_queue.the_sync, laps_crossbeam_queue.the_field_send, laps_crossbeam_queue.the_send, laps_crossbeam_queue.the_field_sync, laps_crossbeam_queue.the_sync, stage_crossbeam_queue.the_field_send, stage_crossbeam_queue.the_send, stage_crossbeam_queue.the_field_sync, stage_crossbeam_queue.the_sync, unruled_crossbeam_utils.the_field_send, unruled_crossbeam_utils.the_send, unruled_crossbeam_utils.the_field_sync, unruled_crossbeam_utils.the_sync, ruledunparker_crossbeam_utils.the_field_send, ruledunparker_crossbeam_utils.the_send, ruledunparker_crossbeam_utils.the_field_sync, ruledunparker_crossbeam_utils.the_sync, signals_crossbeam_utils.the_field_send, signals_crossbeam_utils.the_send, signals_crossbeam_utils.the_field_sync, signals_crossbeam_utils.the_sync, delivery_notify_queue.the_field_send, delivery_notify_queue.the_send, delivery_notify_queue.the_field_sync, delivery_notify_queue.the_sync, knowledge_notify_queue.the_field_send, knowledge_notify_queue.the_send, knowledge_notify_queue.the_field_sync, knowledge_notify_queue.the_sync, ended_sender_notify_queue.the_field_send, ended_sender_notify_queue.the_send, ended_sender_notify_queue.the_field_sync, ended_sender_notify_queue.the_sync, look_notify_queue.the_field_send, look_notify_queue.the_send, look_notify_queue.the_field_sync, look_notify_queue.the_sync, markrule_notify_queue.the_field_send, markrule_notify_queue.the_send, markrule_notify_queue.the_field_sync, markrule_notify_queue.the_sync, role_notify_queue.the_field_send, role_notify_queue.the_send, role_notify_queue.the_field_sync, role_notify_queue.the_sync, stamp_notify_queue.the_field_send, stamp_notify_queue.the_send, stamp_notify_queue.the_field_sync, stamp_notify_queue.the_sync, stamped_notify_queue.the_field_send, stamped_notify_queue.the_send, stamped_notify_queue.the_field_sync, stamped_notify_queue.the_sync, arc_std.the_send, arc_std.the_sync, box_std.the_send, box_std.the_sync, linkedlist_std.the_send, linkedlist_std.the_sync, nodes_std.the_send, nodes_std.the_sync, global_std.the_field_send, global_std.the_send, global_std.the_field_sync, global_std.the_sync, crossing_queue_packets.Blocks-send, crossing_queue_packets.Packet-send, crossing_queue_packets.Packets-send, slotted_crossbeam_queue.the_send, slotted_crossbeam_queue.the_sync, array_crossbeam_queue.the_send, array_crossbeam_queue.the_sync, array_crossbeam_queue.the_field_send, array_crossbeam_queue.the_field_sync, turns_crossbeam_queue.the_send, turns_crossbeam_queue.the_sync, free_crossbeam_queue.the_send, free_crossbeam_queue.the_sync, crosses, sendable)

-- a parcel crosses where its value may
pub Parcel-send : (X : RattleType) → IsSend X → IsSend (parcel.the_row X)
Parcel-send = crossing_fan_base.Parcel-send

channel_send : (M : RattleType) → IsSend M → IsSend (channel.the_row M)
channel_send M s = search all depth 60 fits 20000

channel_sync : (M : RattleType) → IsSend M → IsSync (channel.the_row M)
channel_sync M s = search all depth 60 fits 20000

sender_inside : (M : RattleType) → IsSend M → IsSend (of_sender.the_row M)
sender_inside M s =
    let c = channel_send M s in
    let d = channel_sync M s in
    recorded_send (of_sender.the_field M).row _ _ (of_sender.the_type M).to_one (struct_send (shape (of_sender.the_type M)) (
      search (c, d, all) depth 60 fits 20000,
      (search all depth 60 fits 20000, (search all depth 60 fits 20000, (search all depth 60 fits 20000, (search all depth 60 fits 20000, (search all depth 60 fits 20000, (search all depth 60 fits 20000, tt)))))),
    ))

pub Sender-send : (M : RattleType) → IsSend M → IsSend (sender.the_row M)
Sender-send M s = view_send (of_sender.the_row M) _ _ _ _ (sender_inside M s)

end_inside : (M : RattleType) → IsSend M → IsSend (of_end.the_row M)
end_inside M s = recorded_send (of_end.the_field M).row _ _ (of_end.the_type M).to_one (struct_send (shape (of_end.the_type M)) (search all depth 60 fits 20000, (search all depth 60 fits 20000, (search all depth 60 fits 20000, tt))))

pub SenderEnd-send : (M : RattleType) → IsSend M → IsSend (end.the_row M)
SenderEnd-send M s = view_send (of_end.the_row M) _ _ _ _ (end_inside M s)

receiver_inside : (M : RattleType) → IsSend M → IsSend (of_receiver.the_row M)
receiver_inside M s =
    let c = channel_send M s in
    let d = channel_sync M s in
    recorded_send (of_receiver.the_field M).row _ _ (of_receiver.the_type M).to_one (struct_send (shape (of_receiver.the_type M)) (
      search (c, d, all) depth 60 fits 20000,
      (
        search all depth 60 fits 20000,
        (
          search all depth 60 fits 20000,
          (
            search (parker.the_field_send, all) depth 60 fits 20000,
            (search all depth 60 fits 20000, (search all depth 60 fits 20000, (search all depth 60 fits 20000, (search (vec_std.the_send, all) depth 60 fits 20000, (search all depth 60 fits 20000, (search all depth 60 fits 20000, tt)))))),
          ),
        ),
      ),
    ))

pub Receiver-send : (M : RattleType) → IsSend M → IsSend (receiver.the_row M)
Receiver-send M s = view_send (of_receiver.the_row M) _ _ _ _ (receiver_inside M s)

rest_inside : (M : RattleType) → IsSend M → IsSend (of_rest.the_row M)
rest_inside M s = recorded_send (of_rest.the_field M).row _ _ (of_rest.the_type M).to_one (struct_send (shape (of_rest.the_type M)) (search all depth 60 fits 20000, (search all depth 60 fits 20000, (search all depth 60 fits 20000, tt))))

pub Rest-send : (M : RattleType) → IsSend M → IsSend (rest.the_row M)
Rest-send M s = view_send (of_rest.the_row M) _ _ _ _ (rest_inside M s)
