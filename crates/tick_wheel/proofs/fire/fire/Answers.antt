use Rattle.std.proofs.Common.{◌+◌, List, ◌++◌, refl, sym, ap, ◌∙◌, arith}
use Rattle.std.proofs.lemmas.List.{nil_from_length}
use Rattle.tick_wheel.specs.Handouts.{handouts_of}
use Rattle.tick_wheel.specs.Kept.{timers_of}
use Rattle.tick_wheel.specs.TimerList.{due_at}
use Rattle.tick_wheel.proofs.Fired.{fired_ahead, none_due, all_moved}
use Rattle.tick_wheel.proofs.fire.fire.Goals as goal

pub loop-place-init : goal.loop-place-init
loop-place-init g c = record {
  firing = c.requires.firing;
  apart = c.requires.apart;
  ahead = c.requires.ahead;
  settled = c.requires.settled;
  part = λ id held is. is;
  items =
      let none = nil_from_length c.args.fired.now.items (omega (arith, c.args.fired.now.ok, c.requires.empty)) in
      ap (λ (xs : List g.row.X.Denot). xs ++ handouts_of g.X.Handout.handout (due_at (c.args.now + 1) (timers_of c.args.book.now))) (sym none);
  rest = refl;
  len = omega (arith, c.requires.empty);
  spare = c.requires.spare;
  counted = omega (arith, c.requires.empty);
}

pub returns-clause-ahead : goal.returns-clause-ahead
returns-clause-ahead g c =
    fired_ahead c.loop-place.book c.args.now c.args.keys.now _ c.loop-place.invariant.firing c.loop-place.invariant.apart c.loop-place-test.false c.loop-place.invariant.ahead c.loop-place.invariant.settled

pub returns-clause-fired : goal.returns-clause-fired
returns-clause-fired g c =
    let n = none_due c.loop-place.book c.args.now c.args.keys.now _ c.loop-place.invariant.firing c.loop-place.invariant.apart c.loop-place-test.false c.loop-place.invariant.ahead c.loop-place.invariant.settled in
    all_moved _ _ _ _ n.0 c.loop-place.invariant.items

pub returns-clause-rest : goal.returns-clause-rest
returns-clause-rest g c =
    let n = none_due c.loop-place.book c.args.now c.args.keys.now _ c.loop-place.invariant.firing c.loop-place.invariant.apart c.loop-place-test.false c.loop-place.invariant.ahead c.loop-place.invariant.settled in
    sym n.1 ∙ c.loop-place.invariant.rest
