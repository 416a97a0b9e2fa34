use Rattle.std.proofs.Common.{◌≡◌, take}
use Rattle.std.specs.List.{flat_map}
use Rattle.id_table.specs.Cells.{id_list_of}
use Rattle.id_table.proofs.table.ids_in.Given as goal

abbrev pub invariant-loop-cell : goal.invariant-loop-cell
invariant-loop-cell g l = l.ids.items ≡ flat_map id_list_of (take l.cell-index l.cells)
