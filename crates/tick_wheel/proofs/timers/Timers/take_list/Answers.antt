use Rattle.tick_wheel.proofs.Seen.{kept_empty}
use Rattle.tick_wheel.proofs.timers.Timers.take_list.Goals as goal

pub invariant_of-self : goal.invariant_of-self
invariant_of-self g c = kept_empty _ _ c.self.inside.book c.take_all.new.book c.self.invariant c.take_all.ensures.gone
