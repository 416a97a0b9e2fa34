use Rattle.tick_wheel.proofs.Seen.{kept_new}
use Rattle.tick_wheel.proofs.timers.Timers.new.Goals as goal

pub invariant_of-result : goal.invariant_of-result
invariant_of-result g c = kept_new c.args.start c.in_ok-new.field-0 c.requires c.in_ok-new.ensures
