use Rattle.std.proofs.Common.{◌+◌, List, ◌++◌, sym, ap, ◌∙◌, arith}
use Rattle.std.proofs.lemmas.List.{nil_from_length}
use Rattle.tick_wheel.specs.Handouts.{handouts_of}
use Rattle.tick_wheel.specs.Kept.{timers_of}
use Rattle.tick_wheel.specs.TimerList.{due_at}
use Rattle.tick_wheel.proofs.Fired.{fired_ahead, none_due, all_moved}
use Rattle.tick_wheel.proofs.fire.fire_only.Goals as goal

pub returns-clause-ahead : goal.returns-clause-ahead
returns-clause-ahead g c =
    fired_ahead c.fire_first.new.book c.args.now _ _ c.fire_first.ensures.firing c.fire_first.ensures.apart (omega arith) c.fire_first.ensures.ahead c.fire_first.ensures.settled

pub returns-clause-fired : goal.returns-clause-fired
returns-clause-fired g c =
    let none = nil_from_length c.args.fired.now.items (omega (arith, c.args.fired.now.ok, c.requires.empty)) in
    let n = none_due c.fire_first.new.book c.args.now _ _ c.fire_first.ensures.firing c.fire_first.ensures.apart (omega arith) c.fire_first.ensures.ahead c.fire_first.ensures.settled in
    all_moved _ _ _ _ n.0
    (ap (λ (xs : List g.row.X.Denot). xs ++ handouts_of g.X.Handout.handout (due_at (c.args.now + 1) (timers_of c.args.book.now))) (sym none) ∙ c.fire_first.ensures.fired)

pub returns-clause-rest : goal.returns-clause-rest
returns-clause-rest g c =
    let n = none_due c.fire_first.new.book c.args.now _ _ c.fire_first.ensures.firing c.fire_first.ensures.apart (omega arith) c.fire_first.ensures.ahead c.fire_first.ensures.settled in
    sym n.1 ∙ c.fire_first.ensures.rest
