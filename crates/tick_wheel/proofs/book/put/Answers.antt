use Rattle.std.proofs.Common.{sym, subst}
use Rattle.tick_wheel.specs.Book.{IsBook}
use Rattle.tick_wheel.proofs.Booked.{free_value}
use Rattle.tick_wheel.proofs.BookCalls.{back_book, put_book, put_is}
use Rattle.tick_wheel.proofs.book.put.Goals as goal

pub insert-requires : goal.insert-requires
insert-requires g c = record { free = free_value c.args.table.now c.args.id c.requires.free }

pub returns-in-Err-insert-clause-book : goal.returns-in-Err-insert-clause-book
returns-in-Err-insert-clause-book g c =
    subst (λ pairs. IsBook pairs c.leave.new.self) (sym c.in-Err-insert.ensures.refused)
    (back_book c.args.table.now c.args.slots.now c.append.new.self c.leave.new.self c.args.slot c.args.id c.in-Ok.spot c.requires.book c.in-Ok.ensures.ok c.leave.ensures.values)

pub returns-clause-book : goal.returns-clause-book
returns-clause-book g c =
    put_book c.args.table.now c.insert.new.self c.args.slots.now c.append.new.self c.args.slot c.args.id c.in-Ok.spot c.args.timed c.requires.book
    c.in-Ok.ensures.ok c.requires.free c.in_default.ensures.values c.in_default.ensures.distinct

pub returns-clause-ok : goal.returns-clause-ok
returns-clause-ok g c =
    put_is c.args.table.now c.insert.new.self c.args.slots.now c.append.new.self c.args.slot c.args.id c.in-Ok.spot c.args.timed c.requires.book
    c.in-Ok.ensures.ok c.requires.free c.in_default.ensures.values c.in_default.ensures.distinct
