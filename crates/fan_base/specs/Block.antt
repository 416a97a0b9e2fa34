-- What a block of raw memory owns, at the right to free a block and the type R of the value.
use mir.Syntax.{Ty}
use mir.Raw.{raw}
use base.Fraction.{full_share}
use base.Fml.{Fml, fsep}
use denote.RattleType.{RattleType}
use denote.Memory.{lone}
use denote.RawPtr.{Ptr, lies_at, room_for}

-- room for one value at p, and the right to free the block
abbrev pub room_owns : (Ty → Ptr → Fml) → RattleType → Ptr → Fml
room_owns frees R p = fsep (room_for (raw (lone R.mir)) p) (frees (raw (lone R.mir)) p)

-- the value x at p, and the right to free the block
abbrev pub block_owns : (Ty → Ptr → Fml) → (R : RattleType) → Ptr → R.Denot → Fml
block_owns frees R p x = fsep (lies_at R full_share p x) (frees (raw (lone R.mir)) p)
