use Rattle.std.proofs.Common.{◌∙◌}
use Rattle.id_table.proofs.Orders.{all_empty}
use Rattle.id_table.proofs.table.IdTable.destroy_empty.Goals as goal

pub destroy_cells-requires : goal.destroy_cells-requires
destroy_cells-requires g c = all_empty c.self.inside.cells.items (c.self.view_is ∙ c.requires)
