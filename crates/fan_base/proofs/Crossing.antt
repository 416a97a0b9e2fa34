-- Parcels cross threads where their values may.
use denote.RattleType.{RattleType}
use denote.Param.Send.{IsSend, sendable}
use Rattle.std.proofs.Crossing.{crosses}
use Rattle.std.proofs.alloc.Global.TheSendSync as global_std
use Rattle.std.proofs.mem.ManuallyDrop.TheSendSync as manuallydrop_std
use Rattle.std.proofs.option.Option.TheSendSync as option_std
use Rattle.std.proofs.rt.Memory.TheSendSync as memory_std
use Rattle.fan_base.proofs.parcel.block.Block.TheSendSync as block_fan_base
use Rattle.fan_base.proofs.parcel.Parcels.TheLaws.TheKnot as knot
use Rattle.fan_base.specs.contracts.parcel.Parcel as parcel
use Rattle.fan_base.specs.contracts.parcel.Parcels as parcels

ruleset parts = (manuallydrop_std.the_field_send, manuallydrop_std.the_send, option_std.the_field_send, option_std.the_send, memory_std.the_field_send, memory_std.the_send, global_std.the_field_send, global_std.the_send, block_fan_base.the_send, crosses, knot.crosses, sendable)

pub Parcel-send : (X : RattleType) → IsSend X → IsSend (parcel.the_row X)
Parcel-send X value = search parts depth 60 fits 20000

pub Parcels-send : (X : RattleType) → IsSend X → IsSend (parcels.the_row X)
Parcels-send X value = search parts depth 60 fits 20000
