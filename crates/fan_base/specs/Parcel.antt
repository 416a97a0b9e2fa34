use Rattle.std.specs.Prelude.{List, [], ◌∷◌, Option, Some, None}
use Rattle.std.specs.Mem.{manually_drop_value}
use Rattle.std.specs.declared.alloc.Global.{Global}
use Rattle.fan_base.specs.declared.parcel.block.Block.{Block}
use Rattle.fan_base.specs.declared.parcel.Node.{Node}

-- the value that lies in the block
abbrev pub value_of : {X : Type 0} → Block (Node X) Global → X
value_of block = manually_drop_value block.value.value

-- the values in the block and in those behind it, in their order
abbrev pub values_of : {X : Type 0} → Option (Block (Node X) Global) → List X
values_of None = []
values_of (Some block) = value_of block ∷ block.value.rest
