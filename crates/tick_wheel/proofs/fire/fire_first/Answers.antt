use Rattle.std.proofs.Common.{subst, sym}
use Rattle.tick_wheel.specs.Table.{AreAhead}
use Rattle.tick_wheel.proofs.Fired.{fired_part, fired_timers, moved_on}
use Rattle.tick_wheel.proofs.fire.fire_first.Goals as goal

pub returns-in_default-clause-ahead : goal.returns-in_default-clause-ahead
returns-in_default-clause-ahead g c = subst (λ book. AreAhead c.args.now book) (sym c.in_default.ensures.same) c.requires.ahead

pub returns-clause-ahead : goal.returns-clause-ahead
returns-clause-ahead g c = λ id h is. c.requires.ahead id h (fired_part c.args.book.now c.take.new.self _ c.take.ensures.gone id h is)

pub returns-clause-fired : goal.returns-clause-fired
returns-clause-fired g c =
    let t = fired_timers c.args.book.now c.take.new.self c.args.now c.args.keys.now c.args.place c.requires.firing c.requires.apart c.requires.ahead c.requires.settled c.requires.within c.take.ensures.gone c.take.ensures.unique _ c.in-Some.ensures.some.1 in
    moved_on _ _ _ _ _ _ _ t.0 c.of.ensures c.push_reserved.ensures.items

pub returns-clause-rest : goal.returns-clause-rest
returns-clause-rest g c =
    let t = fired_timers c.args.book.now c.take.new.self c.args.now c.args.keys.now c.args.place c.requires.firing c.requires.apart c.requires.ahead c.requires.settled c.requires.within c.take.ensures.gone c.take.ensures.unique _ c.in-Some.ensures.some.1 in
    t.1
