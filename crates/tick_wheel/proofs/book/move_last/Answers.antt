use Rattle.std.proofs.Common.{sym, ap, ◌∙◌}
use Rattle.std.specs.Option.{option_copied}
use Rattle.tick_wheel.proofs.BookCalls.{found_due, found_there, left_of, moved_anew, moved_book}
use Rattle.tick_wheel.proofs.book.move_last.Goals as goal

pub returns-in_default-clause-none : goal.returns-in_default-clause-none
returns-in_default-clause-none g c = λ _. left_of c.args.table.now c.args.slots.now c.args.from c.requires.book c.in_default.ensures.none

pub unreachable-requires : goal.unreachable-requires
unreachable-requires g c =
    found_there c.args.table.now c.args.slots.now c.in-Some.found.id c.in-Some.found.spot c.requires.book c.in-Some.ensures.some.is
    (sym c.get.ensures.value ∙ ap option_copied c.in_default-get.is)

pub slot_of-to-requires : goal.slot_of-to-requires
slot_of-to-requires g c =
    found_due c.args.table.now c.args.slots.now c.in-Some.found.id c.in-Some.found.spot c.args.from c.args.tick c.in-Some-get.field-0.now c.requires.book c.in-Some.ensures.some.is
    c.in-Some.ensures.slot (sym c.get.ensures.value ∙ ap option_copied c.in-Some-get.is) c.requires.due

pub returns-clause-book : goal.returns-clause-book
returns-clause-book g c =
    moved_book c.args.table.now c.set.new.self c.args.slots.now c.move_last.new.self c.slot_of-to.result c.in-Some.found.id c.in-Some.found.spot c.in_ok-spot.spot
    c.requires.book c.in_ok-spot.ensures.ok c.set.ensures.list c.set.ensures.values c.set.ensures.distinct

pub returns-clause-some : goal.returns-clause-some
returns-clause-some g c = λ _.
    moved_anew c.args.table.now c.set.new.self c.args.slots.now c.move_last.new.self c.slot_of-to.result c.in-Some.found.id c.in-Some.found.spot c.in_ok-spot.spot
    c.requires.book c.in_ok-spot.ensures.ok c.set.ensures.list c.set.ensures.values c.set.ensures.distinct
    c.args.from c.args.tick c.in-Some-get.field-0.now c.in-Some.ensures.slot (sym c.get.ensures.value ∙ ap option_copied c.in-Some-get.is) c.slot_of-to.ensures.at
