-- A block crosses threads where its value and its allocator may, and where what frees a block names no thread.
use base.Fraction.{full_share}
use base.Shift.{Keyless}
use mir.Raw.{raw}
use denote.Exit.{Exit, unchanged, leaves, hidden, under}
use denote.RattleType.{RattleType}
use denote.Memory.{lone}
use denote.RawPtr.{Ptr, RawPtr, block_ptr, null_ptr, lies_at}
use denote.Struct.Struct.{exits_of}
use denote.Struct.Owning.{shape, fields, to}
use denote.Param.Send.{IsSend, Quiet, Frees, AllSend, part_keyless, owning_send, struct_send, sendable}
use Rattle.std.specs.declared.alloc.Allocator.{Ghosts}
use Rattle.fan_base.specs.contracts.parcel.block.Block as block

quiet : {D X : Type 0} (to : D → X) (e : Exit X) → Quiet e → Quiet (hidden (under to e))
quiet to unchanged q = λ x w. tt
quiet to (leaves L l S s r₀) q = λ d. q (to d)

lies : (R : RattleType) → IsSend R → (p : Ptr) (x : R.Denot) → Keyless (lies_at R full_share p x)
lies R s (block_ptr b o) x = part_keyless R s full_share x b o
lies R s null_ptr x = tt

pointers : IsSend RawPtr
pointers = search sendable

pub send : (T A : RattleType) (g : Ghosts A.Denot) → IsSend T → IsSend A → Frees g g.dealloc_token → IsSend (block.the_row T A g)
send T A g value allocator frees =
    let O = block.the_type T A g in
    let all : AllSend (fields O) = (pointers, (allocator, tt)) in
    owning_send O all (λ d. (lies T value d.ptr d.value, frees.frees d.alloc (raw (lone T.mir)) d.ptr)) (λ k. quiet (to O) (exits_of k (fields O)) ((struct_send (shape O) all).leaving k))
