use Rattle.tick_wheel.proofs.Booked.{seen_none}
use Rattle.tick_wheel.proofs.book.Book.destroy_empty.Goals as goal

pub destroy_empty-requires : goal.destroy_empty-requires
destroy_empty-requires g c = seen_none c.self.inside.table c.args.self c.self.view_is c.requires
