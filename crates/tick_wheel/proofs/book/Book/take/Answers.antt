use Rattle.tick_wheel.proofs.Booked.{unique_seen}
use Rattle.tick_wheel.proofs.book.Book.take.Goals as goal

pub returns-in_err-timed-clause-unique : goal.returns-in_err-timed-clause-unique
returns-in_err-timed-clause-unique g c = unique_seen c.take_from.new.table c.take_from.ensures.book.distinct

pub returns-clause-unique : goal.returns-clause-unique
returns-clause-unique g c = unique_seen c.take_from.new.table c.take_from.ensures.book.distinct
