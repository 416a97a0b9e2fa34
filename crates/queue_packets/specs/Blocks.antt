-- What lies in blocks, and in those that are strung behind them.
use Rattle.std.specs.Prelude.{List, [], ◌∷◌, Option, Some, None, option_map, option_to_list}
use Rattle.std.specs.List.{flat_map}
use Rattle.std.specs.Mem.{manually_drop_value}
use Rattle.std.specs.declared.alloc.Global.{Global}
use Rattle.std.specs.declared.boxed.Box.{Box}
use Rattle.queue_packets.specs.declared.block.Node.{Node}

module _ {X : Type 0} where
  -- the item in a block, where it has one
  abbrev pub item_in : Box (Node X) Global → Option X
  item_in node = option_map manually_drop_value node.value.item

  -- what lies in the block and in those strung behind it, in their order
  abbrev pub strung_from : Option (Box (Node X) Global) → List (Option X)
  strung_from None = []
  strung_from (Some node) = item_in node ∷ node.value.rest

  -- the items of blocks, in their order
  abbrev pub items_in : List (Option X) → List X
  items_in blocks = flat_map option_to_list blocks
