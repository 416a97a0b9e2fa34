use Rattle.std.proofs.Common.{map, ap, ◌∙◌}
use Rattle.std.specs.List.{flat_map}
use Rattle.id_table.specs.Cells.{id_list_of}
use Rattle.id_table.proofs.Orders.{ids_of_pairs}
use Rattle.id_table.proofs.table.IdTable.ids.Goals as goal

pub returns : goal.returns
returns g c =
    c.in_ok-ids.ensures ∙ ap (flat_map id_list_of) c.deref.ensures.value ∙ ids_of_pairs c.self.inside.cells.items
    ∙ ap (λ pairs. map (λ pair. pair.0) pairs) c.self.view_is
