-- The queue, its passes and the mark cross threads where the jobs may.
use denote.RattleType.{RattleType}
use denote.Param.Send.{IsSend, IsSync, view_send, view_sync, recorded_send, recorded_sync, struct_send, struct_sync, sendable}
use denote.Struct.Declared.{shape}
use Rattle.std.proofs.Crossing.{crosses}
use Rattle.job_trait.specs.declared.job.Headed.{Ghosts}
use Rattle.queue_packets.proofs.Crossings as crossing_queue_packets
use Rattle.atomic_blocks.proofs.block.Link.TheSendSync as link_atomic_blocks
use Rattle.atomic_blocks.proofs.web.Seat.TheSendSync as seat_atomic_blocks
use Rattle.atomic_blocks.proofs.web.Web.TheSendSync as web_atomic_blocks
use Rattle.atomic_table.proofs.owned.Table.TheSendSync as table_atomic_table
use Rattle.atomic_table.proofs.send_lease.SendLease.TheSendSync as sendlease_atomic_table
use Rattle.atomic_table.proofs.shared.Seat.TheSendSync as seat_atomic_table
use Rattle.atomic_table.proofs.shared.Shared.TheSendSync as shared_atomic_table
use Rattle.crossbeam_queue.proofs.array_queue.Slotted.TheSendSync as slotted_crossbeam_queue
use Rattle.crossbeam_queue.proofs.array_queue.Turns.TheSendSync as turns_crossbeam_queue
use Rattle.crossbeam_queue.proofs.array_queue.plain.ArrayQueue.TheSendSync as array_crossbeam_queue
use Rattle.crossbeam_queue.proofs.protocol.Free.TheSendSync as free_crossbeam_queue
use Rattle.crossbeam_queue.proofs.seg_queue.Chained.TheSendSync as chained_crossbeam_queue
use Rattle.crossbeam_queue.proofs.seg_queue.Ends.TheSendSync as ends_crossbeam_queue
use Rattle.crossbeam_queue.proofs.seg_queue.Laps.TheSendSync as laps_crossbeam_queue
use Rattle.crossbeam_queue.proofs.seg_queue.Stage.TheSendSync as stage_crossbeam_queue
use Rattle.pool_model.proofs.task.Ticket.TheSendSync as ticket_pool_model
use Rattle.std.below.std_collections.proofs.linked_list.nodes.Nodes.TheSendSync as nodes_std
use Rattle.std.proofs.alloc.Global.TheSendSync as global_std
use Rattle.std.proofs.boxed.Box.TheSendSync as box_std
use Rattle.std.proofs.collections.LinkedList.TheSendSync as linkedlist_std
use Rattle.std.proofs.marker.PhantomData.TheSendSync as phantomdata_std
use Rattle.std.proofs.mem.ManuallyDrop.TheSendSync as manuallydrop_std
use Rattle.std.proofs.option.Option.TheSendSync as option_std
use Rattle.std.proofs.rt.Memory.TheSendSync as memory_std
use Rattle.queue_packets.specs.contracts.packet.Packets as packets
use Rattle.task_queue.specs.contracts.passes.Adder as adder
use Rattle.task_queue.specs.contracts.passes.Adder.TheInside as of_adder
use Rattle.task_queue.specs.contracts.passes.Taker as taker
use Rattle.task_queue.specs.contracts.passes.Taker.TheInside as of_taker
use Rattle.task_queue.specs.contracts.passes.Gathered as gathered
use Rattle.task_queue.specs.contracts.passes.Gathered.TheInside as of_gathered
use Rattle.task_queue.specs.contracts.rule.Queued as queued
use Rattle.task_queue.specs.contracts.spares.AdderBlocks as adder_blocks
use Rattle.task_queue.specs.contracts.spares.SpareBlocks as spare_blocks
use Rattle.task_queue.specs.contracts.looks.Looks as looks
use Rattle.task_queue.specs.contracts.looks.Looks.TheInside as of_looks
use Rattle.queue_looks.proofs.trail.Trail.TheSendSync as trail_queue_looks
use Rattle.task_queue.specs.contracts.queue.TaskQueue as queue
use Rattle.task_queue.specs.contracts.queue.TaskQueue.TheInside as of_queue

-- what a queue is left with crosses where its items may
pub Packets-send : (X : RattleType) → IsSend X → IsSend (packets.the_row X)
Packets-send = crossing_queue_packets.Packets-send

SpareBlocks_send : (X : RattleType) → IsSend X → IsSend (spare_blocks.the_row X)
SpareBlocks_send X item = recorded_send (spare_blocks.the_field X).row _ _ (spare_blocks.the_type X).to_one (struct_send (shape (spare_blocks.the_type X)) (search (crossing_queue_packets.Block-send, option_std.the_field_send, option_std.the_send, crosses, sendable) depth 60 fits 20000, (search (crosses, sendable) depth 60 fits 20000, tt)))

AdderBlocks_send : (X : RattleType) → IsSend X → IsSend (adder_blocks.the_row X)
AdderBlocks_send X item = recorded_send (adder_blocks.the_field X).row _ _ (adder_blocks.the_type X).to_one (struct_send (shape (adder_blocks.the_type X)) (search (SpareBlocks_send, box_std.the_send, option_std.the_field_send, option_std.the_send, global_std.the_field_send, global_std.the_send, crosses, sendable) depth 60 fits 20000, (search (crosses, sendable) depth 60 fits 20000, tt)))

ruleset all = (link_atomic_blocks.the_field_send, link_atomic_blocks.the_send, link_atomic_blocks.the_field_sync, link_atomic_blocks.the_sync, seat_atomic_blocks.the_send, web_atomic_blocks.the_send, web_atomic_blocks.the_sync, table_atomic_table.the_field_send, table_atomic_table.the_send, table_atomic_table.the_field_sync, table_atomic_table.the_sync, sendlease_atomic_table.the_send, sendlease_atomic_table.the_sync, seat_atomic_table.the_send, shared_atomic_table.the_send, shared_atomic_table.the_sync, phantomdata_std.the_field_send, phantomdata_std.the_send, phantomdata_std.the_field_sync, phantomdata_std.the_sync, manuallydrop_std.the_field_send, manuallydrop_std.the_send, manuallydrop_std.the_field_sync, manuallydrop_std.the_sync, option_std.the_field_send, option_std.the_send, option_std.the_field_sync, option_std.the_sync, memory_std.the_field_send, memory_std.the_send, memory_std.the_field_sync, memory_std.the_sync, chained_crossbeam_queue.the_send, chained_crossbeam_queue.the_sync, ends_crossbeam_queue.the_field_send, ends_crossbeam_queue.the_send, ends_crossbeam_queue.the_field_sync, ends_crossbeam_queue.the_sync, laps_crossbeam_queue.the_field_send, laps_crossbeam_queue.the_send, laps_crossbeam_queue.the_field_sync, laps_crossbeam_queue.the_sync, stage_crossbeam_queue.the_field_send, stage_crossbeam_queue.the_send, stage_crossbeam_queue.the_field_sync, stage_crossbeam_queue.the_sync, box_std.the_send, box_std.the_sync, linkedlist_std.the_send, linkedlist_std.the_sync, nodes_std.the_send, nodes_std.the_sync, global_std.the_field_send, global_std.the_send, global_std.the_field_sync, global_std.the_sync, ticket_pool_model.the_field_send, ticket_pool_model.the_send, ticket_pool_model.the_field_sync, ticket_pool_model.the_sync, crossing_queue_packets.Block-send, SpareBlocks_send, AdderBlocks_send, crossing_queue_packets.Packet-send, slotted_crossbeam_queue.the_send, slotted_crossbeam_queue.the_sync, array_crossbeam_queue.the_send, array_crossbeam_queue.the_sync, array_crossbeam_queue.the_field_send, array_crossbeam_queue.the_field_sync, turns_crossbeam_queue.the_send, turns_crossbeam_queue.the_sync, free_crossbeam_queue.the_send, free_crossbeam_queue.the_sync, crosses, sendable)

pub Queued-send : (J : RattleType) → IsSend J → IsSend (queued.the_row J)
Queued-send J s = recorded_send (queued.the_field J).row _ _ (queued.the_type J).to_one (struct_send (shape (queued.the_type J)) (search all depth 60 fits 20000, (search all depth 60 fits 20000, tt)))

adder_inside : (J : RattleType) → IsSend J → IsSend (of_adder.the_row J)
adder_inside J s = recorded_send (of_adder.the_field J).row _ _ (of_adder.the_type J).to_one (struct_send (shape (of_adder.the_type J)) (search (Queued-send, all) depth 60 fits 20000, (search (Queued-send, all) depth 60 fits 20000, tt)))

pub Adder-send : (J : RattleType) → IsSend J → IsSend (adder.the_row J)
Adder-send J s = view_send (of_adder.the_row J) _ _ _ _ (adder_inside J s)

taker_inside : (J : RattleType) → IsSend J → IsSend (of_taker.the_row J)
taker_inside J s = recorded_send (of_taker.the_field J).row _ _ (of_taker.the_type J).to_one (struct_send (shape (of_taker.the_type J)) (search (Queued-send, all) depth 60 fits 20000, (search (Queued-send, all) depth 60 fits 20000, tt)))

pub Taker-send : (J : RattleType) → IsSend J → IsSend (taker.the_row J)
Taker-send J s = view_send (of_taker.the_row J) _ _ _ _ (taker_inside J s)

gathered_inside : (J : RattleType) → IsSend J → IsSend (of_gathered.the_row J)
gathered_inside J s = recorded_send (of_gathered.the_field J).row _ _ (of_gathered.the_type J).to_one (struct_send (shape (of_gathered.the_type J)) (search (Queued-send, all) depth 60 fits 20000, tt))

pub Gathered-send : (J : RattleType) → IsSend J → IsSend (gathered.the_row J)
Gathered-send J s = view_send (of_gathered.the_row J) _ _ _ _ (gathered_inside J s)

queue_inside_sync : (J : RattleType) (g : Ghosts J.Denot) → IsSend J → IsSync (of_queue.the_row J g)
queue_inside_sync J g s = recorded_sync (of_queue.the_field J g).row _ _ (of_queue.the_type J g).to_one (struct_sync (shape (of_queue.the_type J g)) (search (Queued-send, all) depth 60 fits 20000, (search (Queued-send, all) depth 60 fits 20000, tt)))

pub TaskQueue-sync : (J : RattleType) (g : Ghosts J.Denot) → IsSend J → IsSync (queue.the_row J g)
TaskQueue-sync J g s = view_sync (of_queue.the_row J g) _ _ _ _ (queue_inside_sync J g s)

queue_inside_send : (J : RattleType) (g : Ghosts J.Denot) → IsSend J → IsSend (of_queue.the_row J g)
queue_inside_send J g s = recorded_send (of_queue.the_field J g).row _ _ (of_queue.the_type J g).to_one (struct_send (shape (of_queue.the_type J g)) (search (Queued-send, all) depth 60 fits 20000, (search (Queued-send, all) depth 60 fits 20000, tt)))

pub TaskQueue-send : (J : RattleType) (g : Ghosts J.Denot) → IsSend J → IsSend (queue.the_row J g)
TaskQueue-send J g s = view_send (of_queue.the_row J g) _ _ _ _ (queue_inside_send J g s)

looks_inside : (J : RattleType) → IsSend (of_looks.the_row J)
looks_inside J = recorded_send (of_looks.the_field J).row _ _ (of_looks.the_type J).to_one (struct_send (shape (of_looks.the_type J)) (search (trail_queue_looks.the_send, all) depth 60 fits 20000, tt))

pub Looks-send : (J : RattleType) → IsSend (looks.the_row J)
Looks-send J = view_send (of_looks.the_row J) _ _ _ _ (looks_inside J)
