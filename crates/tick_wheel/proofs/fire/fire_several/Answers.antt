use Rattle.std.proofs.Common.{ℕ, List, ◌+◌, ◌%◌, subst, sym}
use Rattle.tick_wheel.specs.Firing.{IsFiring}
use Rattle.tick_wheel.specs.Table.{AreAhead, Index}
use Rattle.tick_wheel.proofs.Fired.{firing_first}
use Rattle.tick_wheel.proofs.fire.fire_several.Goals as goal

pub fire_keys-requires-clause-firing : goal.fire_keys-requires-clause-firing
fire_keys-requires-clause-firing g c =
    subst (λ (ks : List (ℕ × ℕ)). IsFiring ((c.args.now + 1) % 256) ks 0 c.touch_slot.new.self) (sym c.deref.ensures.value)
    (firing_first c.touch_slot.new.self _ c.in_ok-keys.keys.items c.in_ok-keys.ensures.lists c.in_ok-keys.ensures.rises)

pub fire_keys-requires-clause-ahead : goal.fire_keys-requires-clause-ahead
fire_keys-requires-clause-ahead g c = subst (λ (index : Index g.row.T.Denot). AreAhead c.args.now index) (sym c.touch_slot.ensures) c.requires.ahead
