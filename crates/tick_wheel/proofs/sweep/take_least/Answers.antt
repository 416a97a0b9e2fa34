use Rattle.tick_wheel.proofs.Fired.{moved_on, fired_apart}
use Rattle.tick_wheel.proofs.Keeping.{gone_ranks}
use Rattle.tick_wheel.proofs.Swept.{listed_on, least_first, still_above}
use Rattle.tick_wheel.proofs.sweep.take_least.Goals as goal

pub returns-clause-apart : goal.returns-clause-apart
returns-clause-apart g c = fired_apart c.args.book.now c.remove.new.self _ c.requires.apart c.remove.ensures.unique c.remove.ensures.gone

pub returns-clause-listed : goal.returns-clause-listed
returns-clause-listed g c =
    listed_on c.args.ids.now c.args.place c.args.book.now c.remove.new.self c.requires.listed c.requires.within (gone_ranks _ _ _ c.remove.ensures.gone)

pub returns-clause-given : goal.returns-clause-given
returns-clause-given g c =
    let ranks = gone_ranks c.args.book.now c.remove.new.self _ c.remove.ensures.gone in
    let first = least_first c.args.book.now c.remove.new.self _ _ c.requires.apart
    (fired_apart c.args.book.now c.remove.new.self _ c.requires.apart c.remove.ensures.unique c.remove.ensures.gone)
    c.in-Some.ensures.some.1 ranks
    (still_above c.args.ids.now c.args.place c.args.book.now c.remove.new.self c.requires.listed ranks) in
    moved_on _ _ _ _ _ _ _ first c.of.ensures c.push_reserved.ensures.items
