use Rattle.std.proofs.Common.{arith}
use Rattle.std.proofs.lemmas.List.{nil_from_length}
use Rattle.tick_wheel.proofs.Fired.{firing_one, fires_none}
use Rattle.tick_wheel.proofs.fire.fire_slot.Goals as goal

pub returns-then-is_left-clause-ok : goal.returns-then-is_left-clause-ok
returns-then-is_left-clause-ok g c =
    fires_none _ c.args.book.now c.args.now c.args.steps.now c.args.fired.now.items (c.is_left.ensures c.if-is_left.true) c.requires.apart c.requires.ahead c.requires.settled
    (nil_from_length c.args.fired.now.items (omega (arith, c.args.fired.now.ok, c.requires.empty)))

pub fire_one-requires-clause-firing : goal.fire_one-requires-clause-firing
fire_one-requires-clause-firing g c = firing_one c.args.book.now _ c.in-Some.key c.in-Some.ensures
