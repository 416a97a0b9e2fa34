use Rattle.tick_wheel.proofs.Rested.{kept_fits}
use Rattle.tick_wheel.proofs.timers.Timers.into_rest.Goals as goal

pub rest_of-requires-clause-fits : goal.rest_of-requires-clause-fits
rest_of-requires-clause-fits g c = kept_fits _ _ c.self.inside.book c.self.invariant
