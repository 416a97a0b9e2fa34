-- Packets and blocks cross threads where their items may.
use denote.RattleType.{RattleType}
use denote.Param.Send.{IsSend, sendable}
use Rattle.std.proofs.Crossing.{crosses}
use Rattle.std.proofs.alloc.Global.TheSendSync as global_std
use Rattle.std.proofs.boxed.Box.TheSendSync as box_std
use Rattle.std.proofs.mem.ManuallyDrop.TheSendSync as manuallydrop_std
use Rattle.std.proofs.option.Option.TheSendSync as option_std
use Rattle.std.proofs.rt.Memory.TheSendSync as memory_std
use Rattle.queue_packets.proofs.block.Blocks.TheLaws.TheKnot as knot
use Rattle.queue_packets.specs.contracts.block.Block as block
use Rattle.queue_packets.specs.contracts.block.Blocks as blocks
use Rattle.queue_packets.specs.contracts.packet.Packet as packet
use Rattle.queue_packets.specs.contracts.packet.Packets as packets

ruleset parts = (manuallydrop_std.the_field_send, manuallydrop_std.the_send, option_std.the_field_send, option_std.the_send, memory_std.the_field_send, memory_std.the_send, global_std.the_field_send, global_std.the_send, box_std.the_send, crosses, knot.crosses, sendable)

pub Block-send : (X : RattleType) → IsSend X → IsSend (block.the_row X)
Block-send X item = search parts depth 60 fits 20000

pub Blocks-send : (X : RattleType) → IsSend X → IsSend (blocks.the_row X)
Blocks-send X item = search parts depth 60 fits 20000

pub Packet-send : (X : RattleType) → IsSend X → IsSend (packet.the_row X)
Packet-send X item = search (Block-send, parts) depth 60 fits 20000

pub Packets-send : (X : RattleType) → IsSend X → IsSend (packets.the_row X)
Packets-send X item = search (Blocks-send, parts) depth 60 fits 20000
