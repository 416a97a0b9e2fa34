use Rattle.std.proofs.Common.{◌/◌, refl, sym, ap, subst}
use Rattle.tick_wheel.specs.Book.{IsBook}
use Rattle.tick_wheel.specs.Held.{seen_pairs}
use Rattle.tick_wheel.proofs.BookCalls.{book_same, moved_book, moved_seen, tail_held, tail_left, tail_moves}
use Rattle.tick_wheel.proofs.book.clear_one.Goals as goal

pub clear_moving-requires-clause-held : goal.clear_moving-requires-clause-held
clear_moving-requires-clause-held g c =
    tail_held c.args.table.now c.args.slots.now c.move_to_waiting-next.result.id c.move_to_waiting-next.result.from c.waits.result c.requires.book c.move_to_waiting-next.ensures.from c.waits.ensures.count
    (c.set_where.ensures.held c.if-set_where.true)

pub returns-then-set_where-clause-book : goal.returns-then-set_where-clause-book
returns-then-set_where-clause-book g c =
    let moves =
    tail_moves c.args.table.now c.args.slots.now c.move_to_waiting-next.result.id c.move_to_waiting-next.result.from c.waits.result c.requires.book c.move_to_waiting-next.ensures.from c.waits.ensures.count (c.set_where.ensures.held c.if-set_where.true)
    c.clear_moving.new.self c.move_to_waiting-next.result.to c.move_to_waiting-next.ensures.to c.clear_moving.ensures.moves in
    let set = c.set_where.ensures.set c.if-set_where.true in
    moved_book c.args.table.now c.set_where.new.self c.args.slots.now c.clear_moving.new.self (c.move_to_waiting-next.result.from / 18014398509481984) c.move_to_waiting-next.result.id
    c.move_to_waiting-next.result.from c.move_to_waiting-next.result.to c.requires.book moves set.list set.values set.distinct

pub returns-then-set_where-clause-seen : goal.returns-then-set_where-clause-seen
returns-then-set_where-clause-seen g c =
    let moves =
    tail_moves c.args.table.now c.args.slots.now c.move_to_waiting-next.result.id c.move_to_waiting-next.result.from c.waits.result c.requires.book c.move_to_waiting-next.ensures.from c.waits.ensures.count (c.set_where.ensures.held c.if-set_where.true)
    c.clear_moving.new.self c.move_to_waiting-next.result.to c.move_to_waiting-next.ensures.to c.clear_moving.ensures.moves in
    let set = c.set_where.ensures.set c.if-set_where.true in
    moved_seen c.args.table.now c.set_where.new.self c.args.slots.now c.clear_moving.new.self (c.move_to_waiting-next.result.from / 18014398509481984) c.move_to_waiting-next.result.id
    c.move_to_waiting-next.result.from c.move_to_waiting-next.result.to c.requires.book moves set.list set.values set.distinct refl

pub clear_left-requires-clause-left : goal.clear_left-requires-clause-left
clear_left-requires-clause-left g c =
    tail_left c.args.table.now c.args.slots.now c.move_to_waiting-next.result.id c.move_to_waiting-next.result.from c.waits.result c.requires.book c.move_to_waiting-next.ensures.from c.waits.ensures.count
    (c.set_where.ensures.other c.if-set_where.false) c.move_to_waiting-next.ensures.id

pub returns-clause-book : goal.returns-clause-book
returns-clause-book g c =
    subst (λ pairs. IsBook pairs c.clear_left.new.self) (sym (c.set_where.ensures.same c.if-set_where.false))
    (book_same c.args.table.now c.args.slots.now c.clear_left.new.self c.requires.book c.clear_left.ensures.same)

pub returns-clause-seen : goal.returns-clause-seen
returns-clause-seen g c = ap seen_pairs (c.set_where.ensures.same c.if-set_where.false)
