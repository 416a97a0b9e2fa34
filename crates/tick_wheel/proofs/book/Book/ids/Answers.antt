use Rattle.std.proofs.Common.{ap, ◌∙◌}
use Rattle.std.specs.Map.{keys_of}
use Rattle.tick_wheel.specs.Table.{Index}
use Rattle.tick_wheel.proofs.Booked.{seen_keys}
use Rattle.tick_wheel.proofs.book.Book.ids.Goals as goal

pub returns : goal.returns
returns g c = c.in_ok-ids.ensures ∙ (seen_keys c.self.inside.table ∙ ap (λ (index : Index g.row.T.Denot). keys_of index) c.self.view_is)
