use Rattle.std.proofs.Common.{◌∙◌}
use Rattle.tick_wheel.proofs.Booked.{holds_same}
use Rattle.tick_wheel.proofs.book.Book.holds.Goals as goal

pub returns : goal.returns
returns g c = c.is_some.ensures ∙ holds_same c.self.inside.table c.args.self.now c.args.id c.get.result c.self.view_is c.get.ensures.value
