use Rattle.std.proofs.Common.{subst, sym, arith}
use Rattle.tick_wheel.specs.Table.{AreAhead}
use Rattle.tick_wheel.proofs.Cascading.{turning_due, turned_ahead, turned_apart, turned_same, turned_count, one_move}
use Rattle.tick_wheel.proofs.cascade.place_last.Goals as goal

pub place_one-requires-clause-due : goal.place_one-requires-clause-due
place_one-requires-clause-due g c = turning_due c.args.book.now c.args.first c.args.width c.args.now c.requires.wheel c.requires.turns c.requires.ahead

pub returns-in_err-more-clause-ahead : goal.returns-in_err-more-clause-ahead
returns-in_err-more-clause-ahead g c = subst (λ book. AreAhead c.args.now book) (sym c.in_err-more.ensures.refused) c.requires.ahead

pub returns-then-more-clause-apart : goal.returns-then-more-clause-apart
returns-then-more-clause-apart g c =
    turned_apart c.args.book.now c.place_one.new.self c.args.first c.args.width c.args.now c.requires.wheel c.requires.turns c.requires.ahead (c.in_ok-more.ensures.some c.if-more.true) c.requires.apart

pub returns-then-more-clause-ahead : goal.returns-then-more-clause-ahead
returns-then-more-clause-ahead g c =
    turned_ahead c.args.book.now c.place_one.new.self c.args.first c.args.width c.args.now c.requires.wheel c.requires.turns c.requires.ahead (c.in_ok-more.ensures.some c.if-more.true)

pub returns-then-more-clause-same : goal.returns-then-more-clause-same
returns-then-more-clause-same g c =
    turned_same c.args.book.now c.place_one.new.self c.args.first c.args.width c.args.now c.requires.wheel c.requires.turns c.requires.ahead (c.in_ok-more.ensures.some c.if-more.true)

pub returns-then-more-clause-one : goal.returns-then-more-clause-one
returns-then-more-clause-one g c = λ _.
    turned_count c.args.book.now c.place_one.new.self c.args.first c.args.width c.args.now c.requires.wheel c.requires.turns c.requires.ahead (c.in_ok-more.ensures.some c.if-more.true)

pub returns-then-more-clause-steps : goal.returns-then-more-clause-steps
returns-then-more-clause-steps g c =
    let steps = c.place_one.ensures.steps in
    let one = one_move c.place_one.result c.in_ok-more.more c.in_ok-more.was c.if-more.true in
    let count = turned_count c.args.book.now c.place_one.new.self c.args.first c.args.width c.args.now c.requires.wheel c.requires.turns c.requires.ahead (c.in_ok-more.ensures.some c.if-more.true) in
    omega (arith, steps, one, count)

pub returns-clause-ahead : goal.returns-clause-ahead
returns-clause-ahead g c = subst (λ book. AreAhead c.args.now book) (sym (c.in_ok-more.ensures.same c.if-more.false)) c.requires.ahead
