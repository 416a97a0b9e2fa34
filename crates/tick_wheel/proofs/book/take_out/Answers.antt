use Rattle.std.proofs.Common.{sym, ◌∙◌}
use Rattle.tick_wheel.proofs.Booked.{free_held}
use Rattle.tick_wheel.proofs.BookCalls.{gone_book, gone_is, gone_stands, gone_was, if_none}
use Rattle.tick_wheel.proofs.book.take_out.Goals as goal

pub returns-in_err-spot-clause-none : goal.returns-in_err-spot-clause-none
returns-in_err-spot-clause-none g c =
    if_none c.from_residual.result _ c.from_residual.ensures (free_held c.args.table.now c.args.id (sym c.remove.ensures.value ∙ c.in_err-spot.was))

pub returns-in_err-spot-clause-gone : goal.returns-in_err-spot-clause-gone
returns-in_err-spot-clause-gone g c = gone_is c.args.table.now c.remove.new.self c.args.id c.remove.ensures.values

pub leave-requires-clause-held : goal.leave-requires-clause-held
leave-requires-clause-held g c =
    gone_stands c.args.table.now c.remove.new.self c.args.slots.now c.args.id (c.in_ok-spot.spot, c.in_ok-spot.timed) c.requires.book (sym c.remove.ensures.value ∙ c.in_ok-spot.was)

pub returns-clause-book : goal.returns-clause-book
returns-clause-book g c =
    gone_book c.args.table.now c.remove.new.self c.args.slots.now c.args.id (c.in_ok-spot.spot, c.in_ok-spot.timed) c.requires.book (sym c.remove.ensures.value ∙ c.in_ok-spot.was)
    c.leave.new.self c.remove.ensures.values c.remove.ensures.distinct c.leave.ensures.values

pub returns-clause-some : goal.returns-clause-some
returns-clause-some g c =
    gone_was c.args.table.now c.remove.new.self c.args.slots.now c.args.id (c.in_ok-spot.spot, c.in_ok-spot.timed) c.requires.book (sym c.remove.ensures.value ∙ c.in_ok-spot.was)

pub returns-clause-gone : goal.returns-clause-gone
returns-clause-gone g c = gone_is c.args.table.now c.remove.new.self c.args.id c.remove.ensures.values
