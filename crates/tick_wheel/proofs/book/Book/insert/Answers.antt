use Rattle.tick_wheel.proofs.Booked.{unique_seen}
use Rattle.tick_wheel.proofs.BookCalls.{on_ok}
use Rattle.tick_wheel.proofs.book.Book.insert.Goals as goal

pub returns-clause-unique : goal.returns-clause-unique
returns-clause-unique g c = on_ok c.put.result _ (unique_seen c.put.new.table c.put.ensures.book.distinct)
