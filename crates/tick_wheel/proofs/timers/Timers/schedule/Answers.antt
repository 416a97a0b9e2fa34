use Rattle.std.proofs.Common.{refl, arith}
use Rattle.tick_wheel.proofs.Keeping.{kept_link}
use Rattle.tick_wheel.proofs.Seen.{seen_free, seen_schedule, ahead_placed, next_fits}
use Rattle.tick_wheel.proofs.timers.Timers.schedule.Goals as goal

pub insert-requires-clause-free : goal.insert-requires-clause-free
insert-requires-clause-free g c = seen_free _ c.self.inside.book c.args.self.now c.args.id c.self.invariant.apart c.self.view_is c.requires

pub invariant_of-self-2 : goal.invariant_of-self-2
invariant_of-self-2 g c =
    kept_link _ _ c.self.inside.book c.insert.new.self c.args.id _ c.self.invariant c.in_ok-insert.ensures.unique c.in_ok-insert.ensures.ok refl
    (ahead_placed _ _ _ c.slot_of-slot.ensures.at (omega (arith, c.if-delay-eq0.false)) (omega (arith, c.if-delay-gt-MAX_DELAY.false))) (next_fits c.self.inside.next c.self.invariant.last c.if-self.false)

pub returns-clause-ok : goal.returns-clause-ok
returns-clause-ok g c =
    let k = kept_link _ _ c.self.inside.book c.insert.new.self c.args.id _ c.self.invariant c.in_ok-insert.ensures.unique c.in_ok-insert.ensures.ok refl
    (ahead_placed _ _ _ c.slot_of-slot.ensures.at (omega (arith, c.if-delay-eq0.false)) (omega (arith, c.if-delay-gt-MAX_DELAY.false))) (next_fits c.self.inside.next c.self.invariant.last c.if-self.false) in
    seen_schedule _ _ c.self.inside.book c.insert.new.self c.args.self.now c.args.delay c.args.id _ c.self.invariant k.apart
    c.self.view_is c.requires refl refl c.in_ok-insert.ensures.ok
