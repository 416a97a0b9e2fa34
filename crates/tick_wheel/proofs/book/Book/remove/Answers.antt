use Rattle.tick_wheel.proofs.Booked.{unique_seen}
use Rattle.tick_wheel.proofs.book.Book.remove.Goals as goal

pub returns-clause-unique : goal.returns-clause-unique
returns-clause-unique g c = unique_seen c.take_out.new.table c.take_out.ensures.book.distinct
